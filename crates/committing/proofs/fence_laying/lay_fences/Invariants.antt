-- `committing::fence_laying::lay_fences` meets its contract. The loop's invariant: the words have their fields with the fences of the nodes below
-- this place laid.
-- Assumes nothing.
use Prim.Native.Nat.{◌+◌, ◌≤◌}
use lib.ListN.{length}
use Rattle.store.specs.HasFields.{HasFields}
use Rattle.committing.proofs.FenceLaying.{fenced_before}
use Rattle.committing.proofs.fence_laying.lay_fences.Given as goal

abbrev pub invariant-loop-place : goal.invariant-loop-place
invariant-loop-place l = (l.place ≤ l.in_use + 1) × HasFields (length l.fn.draft) (fenced_before l.fn.draft l.starts l.place) l.draft

-- `committing::fence_laying::put_fences` meets its contract. The loop's invariant: the words have their fields with the fences of the slots below
-- this one laid.
-- Assumes nothing.
use lib.ListN.{length}
use Rattle.store.specs.HasFields.{HasFields}
use Rattle.committing.proofs.FenceLaying.{fenced_up_to}
use Rattle.committing.proofs.fence_laying.put_fences.Given as goal

abbrev pub invariant-loop-slot : goal.invariant-loop-slot
invariant-loop-slot l = HasFields (length l.fn.draft) (fenced_up_to l.fn.draft l.starts l.place l.slot) l.draft

-- `committing::link_laying::lay_links` meets its contract. The loop's invariant: the first places ahead of the place are known, and the links of
-- the places past it are laid.
-- Assumes nothing.
use Prim.Native.Nat.{◌+◌}
use lib.ListN.{length}
use Rattle.store.specs.HasFields.{HasFields}
use Rattle.linking.proofs.PlacesAhead.{Ahead}
use Rattle.committing.proofs.LinkLaying.{linked_from_field}
use Rattle.committing.proofs.link_laying.lay_links.Given as goal

abbrev pub invariant-loop-place : goal.invariant-loop-place
invariant-loop-place l = Ahead l.fn.draft l.place l.ahead × HasFields (length l.fn.draft) (linked_from_field l.fn.draft (l.place + 1)) l.draft

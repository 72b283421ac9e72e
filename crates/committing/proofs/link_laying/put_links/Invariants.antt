-- `committing::link_laying::put_links` meets its contract. The loop's invariant: the links of the place are laid in the lanes below this one.
-- Assumes nothing.
use lib.ListN.{length}
use Rattle.store.specs.HasFields.{HasFields}
use Rattle.committing.proofs.LinkLaying.{linked_below_field}
use Rattle.committing.proofs.link_laying.put_links.Given as goal

abbrev pub invariant-loop-lane : goal.invariant-loop-lane
invariant-loop-lane l = HasFields (length l.fn.draft) (linked_below_field l.fn.draft l.place l.level l.ahead l.lane) l.draft

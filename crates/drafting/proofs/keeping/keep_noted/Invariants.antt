-- `drafting::keeping::keep_noted` meets its contract. The loop's invariant: the nodes drafted so far and those noted from here on are all that are
-- noted.
-- Assumes nothing.
use Rattle.drafting.proofs.KeepSteps.{KeptSoFar}
use Rattle.drafting.proofs.keeping.keep_noted.Given as goal

abbrev pub invariant-loop-place : goal.invariant-loop-place
invariant-loop-place l = KeptSoFar l.nodes l.found l.draft l.place

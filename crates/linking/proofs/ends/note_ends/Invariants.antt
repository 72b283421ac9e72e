-- `linking::ends::note_ends` meets its contract. The loop's invariant: what is left to note and to test comes to what all comes to.
-- Assumes nothing.
use Rattle.linking.proofs.NotingSteps.{Noting}
use Rattle.linking.proofs.ends.note_ends.Given as goal

abbrev pub invariant-loop-number : goal.invariant-loop-number
invariant-loop-number l = Noting l.bands l.nodes l.initial.found l.found l.right l.number

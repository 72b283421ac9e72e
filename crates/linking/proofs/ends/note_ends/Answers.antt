-- `linking::ends::note_ends` meets its contract. The loop's invariant: what is left to note and to test comes to what all comes to.
-- Assumes nothing.
use native.Mathlib.Omega.{arith}
use Rattle.linking.proofs.NotingSteps.{noting_begins, noting_goes_on, noting_ends}
use Rattle.linking.proofs.ends.note_ends.Goals as goal

pub loop-number-init : goal.loop-number-init
loop-number-init c = noting_begins _ _ _

pub loop-number-preserved : goal.loop-number-preserved
loop-number-preserved c = noting_goes_on _ _ _ c.loop-number.invariant (omega arith) c.note_ends_of-right.ensures

pub returns : goal.returns
returns c = noting_ends _ _ _ c.loop-number.invariant (omega arith)

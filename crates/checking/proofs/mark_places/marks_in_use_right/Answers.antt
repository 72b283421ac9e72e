-- `checking::mark_places::marks_in_use_right` meets its contract.
-- Assumes nothing.
use Rattle.std.proofs.Common.{arith}
use Rattle.std.proofs.lemmas.Grind.{common_steps}
use Rattle.checking.specs.MarkPlaces.{marks_in_use_right}
use Rattle.checking.proofs.Joined.{joined}
use Rattle.checking.proofs.mark_places.marks_in_use_right.Goals as goal

pub returns-then-count-room : goal.returns-then-count-room
unfolding marks_in_use_right
returns-then-count-room c = grind (arith, common_steps, joined)

pub returns-else-count-room : goal.returns-else-count-room
unfolding marks_in_use_right
returns-else-count-room c = grind (arith, common_steps, joined)

-- `marking::walking::stair_at` meets its contract. The loop's invariant: the stair among the lanes that are left is the stair of all.
-- Assumes nothing.
use mathlib.Core.Path.{refl, sym, ◌∙◌}
use Rattle.marking.specs.WordWalk.{stair_at}
use Rattle.marking.proofs.WalkSteps.{edge_later}
use Rattle.marking.proofs.walking.stair_at.Goals as goal

pub loop-lane-init : goal.loop-lane-init
unfolding stair_at
loop-lane-init c = refl

pub returns-in-Some-clause-later : goal.returns-in-Some-clause-later
returns-in-Some-clause-later c = edge_later _ _ _ _ (sym c.in-Some.is ∙ c.edge_within.ensures)

-- `marking::walking::stair_at` meets its contract. The loop's invariant: the stair among the lanes that are left is the stair of all.
-- Assumes nothing.
use mathlib.Core.Path.{◌≡◌}
use Rattle.marking.specs.WordWalk.{stair_below, stair_at}
use Rattle.marking.proofs.walking.stair_at.Given as goal

abbrev pub invariant-loop-lane : goal.invariant-loop-lane
invariant-loop-lane l = stair_below l.nodes l.high.0 l.here l.lane ≡ stair_at l.nodes l.high.0 l.here

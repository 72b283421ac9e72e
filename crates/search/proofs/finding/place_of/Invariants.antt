-- `search::finding::place_of` meets its contract. The loop's invariant: halving on from here comes to the same as halving all places in use.
-- Assumes nothing.
use Prim.Native.Nat.{◌+◌, ◌-◌, ◌≤◌, ◌<◌}
use Rattle.search.specs.PlaceOf.{first_not_below}
use Rattle.search.proofs.PlaceSteps.{HalvesTo}
use Rattle.search.proofs.finding.place_of.Given as goal

abbrev pub invariant-loop-low : goal.invariant-loop-low
invariant-loop-low l = (l.low < l.high) × (l.high ≤ l.in_use + 1) × HalvesTo l.nodes l.key.0 l.low l.high (first_not_below l.nodes l.key.0)

abbrev pub decreases-loop-low : goal.decreases-loop-low
decreases-loop-low l = l.high - l.low

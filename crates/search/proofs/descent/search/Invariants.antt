-- `search::descent::search` meets its contract. The invariant of both loops: finishing the search from here comes to what the whole comes to.
-- Assumes nothing.
use Prim.Native.Nat.{suc, ◌-◌}
use Rattle.search.specs.Descent.{most_looks}
use Rattle.search.proofs.Searching.{Searching}
use Rattle.search.proofs.descent.search.Given as goal

abbrev pub invariant-loop-looks : goal.invariant-loop-looks
invariant-loop-looks l = Searching l.nodes l.marks l.key.0 l.taken l.looks l.here (suc l.lane)

abbrev pub decreases-loop-looks : goal.decreases-loop-looks
decreases-loop-looks l = most_looks - l.looks

abbrev pub invariant-loop-lane : goal.invariant-loop-lane
invariant-loop-lane l = Searching l.nodes l.marks l.key.0 l.taken l.looks l.place l.lane

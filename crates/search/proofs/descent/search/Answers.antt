-- `search::descent::search` meets its contract. The invariant of both loops: finishing the search from here comes to what the whole comes to.
-- Assumes nothing.
use Prim.Native.Nat.{suc, ◌-◌}
use native.Mathlib.Omega.{arith}
use mathlib.Core.Path.{◌≡◌, refl}
use Rattle.hall.proofs.KeyOrder.{below, not_below}
use Rattle.search.proofs.Searching.{begins, steps_on, drops_taking, drops_at, drops_at_end, ends, ends_short}
use Rattle.search.proofs.descent.search.Goals as goal

pub loop-lane-init : goal.loop-lane-init
loop-lane-init c = begins _ _ _ c.nothing-taken.ensures

pub loop-looks-init : goal.loop-looks-init
loop-looks-init c = let lane : suc (c.loop-lane.lane - 1) ≡ c.loop-lane.lane = omega arith in rw lane c.loop-lane.invariant

pub loop-looks-preserved : goal.loop-looks-preserved
loop-looks-preserved c =
    steps_on _ _ _ c.loop-looks.invariant (omega arith) c.in-Some.ensures.some (below _ _ c.lt.ensures c.if-lt.true)

pub loop-lane-preserved-in-Some-2 : goal.loop-lane-preserved-in-Some-2
loop-lane-preserved-in-Some-2 c =
    drops_taking _ _ _
    c.loop-looks.invariant
    (omega arith)
    c.in-Some.ensures.some
    (omega arith)
    (below _ _ c.if-lt-2.ensures refl)
    c.take_slot.ensures

pub loop-lane-preserved-in_default : goal.loop-lane-preserved-in_default
loop-lane-preserved-in_default c =
    drops_at _ _ _
    c.loop-looks.invariant
    (omega arith)
    c.in-Some.ensures.some
    (omega arith)
    (not_below _ _ c.lt.ensures c.if-lt.false)
    (not_below _ _ c.if-lt-2.ensures refl)

pub loop-lane-preserved : goal.loop-lane-preserved
loop-lane-preserved c =
    drops_at_end _ _ _ c.loop-looks.invariant (omega arith) (omega arith) (rw c.in_default.is at c.next_in.ensures.none)

pub returns-then-looks-ge-MOST_LOOKS : goal.returns-then-looks-ge-MOST_LOOKS
returns-then-looks-ge-MOST_LOOKS c = ends_short _ _ _ c.loop-looks.invariant (omega arith) (omega arith)

pub returns-after-loop-lane : goal.returns-after-loop-lane
returns-after-loop-lane c =
    let done : c.loop-lane.lane ≡ 0 = omega arith in ends _ _ _ (rw done at c.loop-lane.invariant) c.take_at_end.ensures

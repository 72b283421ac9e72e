-- `committing::fence_laying::lay_fences` meets its contract. The loop's invariant: the words have their fields with the fences of the nodes below
-- this place laid.
-- Assumes nothing.
use native.Mathlib.Omega.{arith}
use Rattle.committing.proofs.FenceLaying.{no_place_yet, next_place_lem, all_fenced}
use Rattle.committing.proofs.fence_laying.lay_fences.Goals as goal

pub loop-place-init : goal.loop-place-init
loop-place-init c = (omega arith, no_place_yet _ _)

pub loop-place-preserved : goal.loop-place-preserved
loop-place-preserved c = (omega arith, next_place_lem _ _ _ _ _ _ (omega arith) c.loop-place.invariant.1 c.put_fences.ensures)

pub returns : goal.returns
returns c = all_fenced _ _ _ _ _ (omega arith) c.loop-place.invariant.1

pub returns-2 : goal.returns-2
returns-2 c = all_fenced _ _ _ _ _ (omega arith) (next_place_lem _ _ _ _ _ _ (omega arith) c.loop-place.invariant.1 c.put_fences.ensures)

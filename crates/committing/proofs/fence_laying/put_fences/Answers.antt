-- `committing::fence_laying::put_fences` meets its contract. The loop's invariant: the words have their fields with the fences of the slots below
-- this one laid.
-- Assumes nothing.
use native.Mathlib.Omega.{arith}
use Rattle.rules.specs.Staircase.{slot_number}
use Rattle.committing.proofs.FenceLaying.{no_fence_yet, next_fence, place_fenced}
use Rattle.committing.proofs.fence_laying.put_fences.Goals as goal

pub loop-slot-init : goal.loop-slot-init
loop-slot-init c = no_fence_yet _ _ _

pub loop-slot-preserved : goal.loop-slot-preserved
unfolding slot_number
loop-slot-preserved c = next_fence _ _ _ _ _ _ _ (omega arith) c.put_node_word.ensures c.loop-slot.invariant

pub returns : goal.returns
returns c = place_fenced _ _ _ _ _ _ (omega arith) c.loop-slot.invariant

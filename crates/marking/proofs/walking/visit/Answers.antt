-- `marking::walking::visit` meets its contract.
-- Assumes nothing.
use mathlib.Core.Path.{◌∙◌}
use Rattle.marking.proofs.WalkSteps.{own_stored, own_left_out, stored_own, stored_stair}
use Rattle.marking.proofs.walking.visit.Goals as goal
use Rattle.marking.proofs.walking.visit.Goals.{then-holds, else-holds}

pub returns-in-Some : goal.returns-in-Some
returns-in-Some c =
    rw c.in-Some.is
    (stored_stair _ _ _ c.node_word.ensures c.holds.ensures _ _ (elim c.if-holds.branch [
      | then-holds w ↦ own_stored _ _ _ w.if-holds.true (w.slots-is ∙ w.put_word.ensures) w.count-is
      | else-holds w ↦ own_left_out _ _ _ w.if-holds.false w.slots-is w.count-is
    ]) _ c.put_word-in-Some.ensures)

pub returns-in_default : goal.returns-in_default
returns-in_default c =
    rw c.in_default.is
    (stored_own _ _ _ c.node_word.ensures c.holds.ensures _ _ (elim c.if-holds.branch [
      | then-holds w ↦ own_stored _ _ _ w.if-holds.true (w.slots-is ∙ w.put_word.ensures) w.count-is
      | else-holds w ↦ own_left_out _ _ _ w.if-holds.false w.slots-is w.count-is
    ]))

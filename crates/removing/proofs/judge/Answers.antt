-- `removing::judge` meets its contract: at each `return` the tests that led there say which of 1, 2, 3, 9 and 10 is the first that
-- applies.
-- Assumes nothing.
use mathlib.Core.Path.{sym, ap}
use native.Mathlib.Omega.{arith}
use Rattle.removing.proofs.RemoveSteps.{remove_judged_by_1, remove_judged_by_2, remove_judged_by_3, remove_judged_by_9, remove_judged_by_10, remove_judged_by_none}
use Rattle.removing.proofs.judge.Goals as goal

pub returns-then-not-check : goal.returns-then-not-check
returns-then-not-check c = remove_judged_by_1 _ _ _ (sym (ap (λ o. o.told) c.if-not-check.ensures))

pub returns-then-scope-gt-HOUSE : goal.returns-then-scope-gt-HOUSE
returns-then-scope-gt-HOUSE c = remove_judged_by_2 _ _ _ (sym (ap (λ o. o.told) c.if-not-check.ensures)) c.if-scope-gt-HOUSE.true

pub returns-then-number-gt-HIGHEST_NUMBER : goal.returns-then-number-gt-HIGHEST_NUMBER
returns-then-number-gt-HIGHEST_NUMBER c =
    remove_judged_by_3 _ _ _ (sym (ap (λ o. o.told) c.if-not-check.ensures)) (omega arith) c.if-number-gt-HIGHEST_NUMBER.true

pub returns-then-not-is_live : goal.returns-then-not-is_live
returns-then-not-is_live c =
    remove_judged_by_9 _ _ _ (sym (ap (λ o. o.told) c.if-not-check.ensures)) (omega arith) (omega arith) (sym c.if-not-is_live.ensures)

pub returns-then-band_at-scope : goal.returns-then-band_at-scope
returns-then-band_at-scope c =
    remove_judged_by_10 _ _ _ (sym (ap (λ o. o.told) c.if-not-check.ensures)) (omega arith) (omega arith) (sym c.if-not-is_live.ensures) _
    c.band_at.ensures c.if-band_at-scope.true

pub returns : goal.returns
returns c =
    remove_judged_by_none _ _ _ (sym (ap (λ o. o.told) c.if-not-check.ensures)) (omega arith) (omega arith) (sym c.if-not-is_live.ensures) _
    c.band_at.ensures c.if-band_at-scope.false

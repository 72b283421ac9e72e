-- `inserting::judge` meets its contract: at each `return` the tests that led there say which of 1 to 8 is the first that applies.
-- Assumes nothing.
use mathlib.Core.Path.{◌≡◌, sym, ap, ◌∙◌}
use Rattle.std.proofs.Common.{rules}
use Rattle.std.specs.Prelude.{Err}
use Rattle.hall.specs.Says.{answer_says}
use Rattle.hall.proofs.OneToOne.{no_refusal_says_0}
use Rattle.inserting.proofs.InsertSteps.{insert_judged_by_1, insert_judged_by_fault, insert_judged_by_8, insert_judged_by_none}
use Rattle.inserting.proofs.judge.Goals as goal

pub returns-then-not-check : goal.returns-then-not-check
returns-then-not-check c = insert_judged_by_1 _ _ _ _ (sym (ap (λ o. o.told) c.if-not-check.ensures))

pub returns-in_err-fault : goal.returns-in_err-fault
returns-in_err-fault c =
    let answered : c.from_residual.result ≡ Err c.in_err-fault.field-0.0 = search rules in
    ap answer_says answered
    ∙ insert_judged_by_fault _ _ _ _ (sym (ap (λ o. o.told) c.if-not-check.ensures)) _ c.in_err-fault.ensures (no_refusal_says_0 _)

pub returns-then-is_live : goal.returns-then-is_live
returns-then-is_live c =
    insert_judged_by_8 _ _ _ _ (sym (ap (λ o. o.told) c.if-not-check.ensures)) c.in_ok-fault.ensures (sym c.if-is_live.ensures)

pub returns : goal.returns
returns c =
    insert_judged_by_none _ _ _ _ (sym (ap (λ o. o.told) c.if-not-check.ensures)) c.in_ok-fault.ensures (sym c.if-is_live.ensures)

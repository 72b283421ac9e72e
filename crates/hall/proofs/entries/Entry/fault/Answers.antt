-- `hall::Entry::fault` meets its contract: a refusal of the band by itself stays, and without one the levels decide.
-- Assumes nothing.
use mathlib.Core.Path.{◌≡◌, sym, ap, ◌∙◌}
use Rattle.std.proofs.Common.{rules}
use Rattle.std.specs.Prelude.{Err}
use Rattle.rules.proofs.BoxSaysNo.{fault_of_band}
use Rattle.hall.specs.Says.{answer_says}
use Rattle.rules.proofs.Connectives.{both}
use Rattle.hall.proofs.OneToOne.{no_refusal_says_0}
use Rattle.rules.proofs.Faults.{by_7, by_none_of_all}
use Rattle.hall.proofs.entries.Entry.fault.Goals as goal

pub returns-in_err-fault : goal.returns-in_err-fault
returns-in_err-fault c =
    let answered : c.from_residual.result ≡ Err c.in_err-fault.field-0.0 = search rules in
    let refused = c.in_err-fault.ensures in
    ap answer_says answered ∙ refused
    ∙ sym (fault_of_band _ _ _ (λ none. no_refusal_says_0 _ (refused ∙ none)))

pub returns-then-is_level : goal.returns-then-is_level
returns-then-is_level c =
    by_none_of_all _ _ _
    (sym c.in_ok-fault.ensures)
    (sym (both c.is_level.ensures c.is_level-2.ensures) ∙ c.if-is_level.true)

pub returns-else-is_level : goal.returns-else-is_level
returns-else-is_level c =
    by_7 _ _ _
    (sym c.in_ok-fault.ensures)
    (sym (both c.is_level.ensures c.is_level-2.ensures) ∙ c.if-is_level.false)

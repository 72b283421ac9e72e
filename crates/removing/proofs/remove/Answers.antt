-- `removing::remove` meets its contract: what is judged stands, and where nothing is given the rest is the remove.
-- Assumes nothing.
use Prim.Native.Nat.{ℕ}
use mathlib.Core.Path.{◌≡◌, sym, ap, ◌∙◌}
use Rattle.std.proofs.Common.{rules}
use Rattle.std.specs.Prelude.{Err}
use Rattle.hall.proofs.OneToOne.{no_refusal_says_0}
use Rattle.store.specs.Memory.{Memory}
use Rattle.store.specs.LentMemory.{words_in_mut}
use Rattle.store.specs.Came.{came}
use Rattle.removing.specs.RemoveCall.{remove_judged}
use Rattle.removing.proofs.RemoveSteps.{remove_refused}
use Rattle.removing.proofs.remove.Goals as goal

-- what is judged is the memory that was lent
judged_lent : {w m : Memory} {answer : ℕ} (number scope : ℕ) → w ≡ m → answer ≡ remove_judged w number scope → answer ≡ remove_judged m number scope
judged_lent number scope same judged = judged ∙ ap (λ m. remove_judged m number scope) same

pub returns-in_err-judge-clause-removes : goal.returns-in_err-judge-clause-removes
returns-in_err-judge-clause-removes c =
    let answered : c.from_residual.result ≡ Err c.in_err-judge.field-0.0 = search rules in
    ap (λ a. came a (words_in_mut c.args.memory.now)) answered
    ∙ remove_refused _ _ _ _ (judged_lent _ _ c.to_ask.ensures c.in_err-judge.ensures) (no_refusal_says_0 _)

pub remove_judged-requires : goal.remove_judged-requires
remove_judged-requires c = sym (judged_lent _ _ c.to_ask.ensures c.in_ok-judge.ensures)

-- `inserting::insert` meets its contract: what is judged stands, and where nothing is given the rest is the insert.
-- Assumes nothing.
use Prim.Native.Nat.{ℕ}
use mathlib.Core.Path.{◌≡◌, sym, ap, ◌∙◌}
use Rattle.std.proofs.Common.{rules}
use Rattle.std.specs.Prelude.{Err}
use Rattle.hall.proofs.OneToOne.{no_refusal_says_0}
use Rattle.rules.specs.HallLine.{Band}
use Rattle.store.specs.Memory.{Memory}
use Rattle.store.specs.LentMemory.{words_in_mut}
use Rattle.store.specs.Came.{came}
use Rattle.inserting.specs.InsertCall.{insert_judged}
use Rattle.inserting.proofs.InsertSteps.{insert_refused}
use Rattle.inserting.proofs.insert.Goals as goal

-- what is judged is the memory that was lent
judged_lent : {w m : Memory} {answer : ℕ} (b : Band) (lo hi : ℕ) → w ≡ m → answer ≡ insert_judged w b lo hi → answer ≡ insert_judged m b lo hi
judged_lent b lo hi same judged = judged ∙ ap (λ m. insert_judged m b lo hi) same

pub returns-in_err-judge-clause-inserts : goal.returns-in_err-judge-clause-inserts
returns-in_err-judge-clause-inserts c =
    let answered : c.from_residual.result ≡ Err c.in_err-judge.field-0.0 = search rules in
    ap (λ a. came a (words_in_mut c.args.memory.now)) answered
    ∙ insert_refused _ _ _ _ _ (judged_lent _ _ _ c.to_ask.ensures c.in_err-judge.ensures) (no_refusal_says_0 _)

pub insert_judged-requires : goal.insert_judged-requires
insert_judged-requires c = sym (judged_lent _ _ _ c.to_ask.ensures c.in_ok-judge.ensures)

-- What the outcome of a call that changes says tells it back: of two that say the same, the answers are equal and all three slices.
-- Assumes nothing.
use mathlib.Core.Path.{◌≡◌, sym, ◌∙◌, ap}
use Rattle.std.specs.Prelude.{Result}
use Rattle.rules.specs.BoxSaysNo.{Change}
use Rattle.hall.specs.declared.answers.Refusal.{Refusal}
use Rattle.hall.proofs.OneToOne.{answer_one_to_one}
use Rattle.store.specs.Memory.{Memory}
use Rattle.store.specs.Came.{came}

pub change_told_back : {said : Change Memory} (a b : Result Unit Refusal) (left left' : Memory)
    → came a left ≡ said → came b left' ≡ said
    → (a ≡ b) × ((left.bands ≡ left'.bands) × (left.nodes ≡ left'.nodes) × (left.marks ≡ left'.marks))
change_told_back a b left left' e f =
    let same = e ∙ sym f in (
      answer_one_to_one a b (ap (λ o. o.refusal) same),
      (ap (λ o. o.after.bands) same, ap (λ o. o.after.nodes) same, ap (λ o. o.after.marks) same),
    )

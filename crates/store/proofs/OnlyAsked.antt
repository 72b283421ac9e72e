-- A call that only asks, by its promise: it is met by telling what is due and leaving memory as it was, and by nothing else. Of two outcomes that meet it
-- what is told is the same, and all three slices are, which are those that were lent.
-- Assumes nothing.
use mathlib.Core.Path.{◌≡◌, sym, ◌∙◌, ap}
use Rattle.store.specs.Memory.{Memory}
use Rattle.store.specs.Came.{asked}
use Rattle.store.proofs.LentWords.{Lent, asked_with, SameWords}

-- what is due is told, and memory is as it was
pub left_as_it_was : {A : Type 0} {a due : A} {after : Memory} → a ≡ due → asked a after ≡ asked due after
left_as_it_was {after = after} e = ap (λ told. asked told after) e

module _ {A B : Type 0} (given x : Lent B) {a due : A} (met : asked_with a x ≡ asked_with due given) where
  pub what_was_told : a ≡ due
  what_was_told = ap (λ o. o.told) met

  pub words_left : SameWords x given
  words_left = (ap (λ o. o.after.bands) met, ap (λ o. o.after.nodes) met, ap (λ o. o.after.marks) met)

pub asked_settled : {A B : Type 0} (given x y : Lent B) {a b due : A} → asked_with a x ≡ asked_with due given → asked_with b y ≡ asked_with due given
    → (a ≡ b) × SameWords x y × SameWords x given
asked_settled given x y p q = let same = p ∙ sym q in (what_was_told y x same, words_left y x same, words_left given x p)

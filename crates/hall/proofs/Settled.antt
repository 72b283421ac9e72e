-- No second answer meets a promise of this crate: of two that meet what a function's `ensures` says, whatever it was given, both are equal. Stated of the
-- promises themselves: one that said less would not settle the answer.
-- Assumes nothing.
use Prim.{Unit}
use Prim.Native.Nat.{ℕ}
use mathlib.Core.Path.{◌≡◌, sym, ◌∙◌}
use mathlib.Core.Bool.{Bool}
use Rattle.std.specs.Prelude.{Option, Result}
use contract.Lifetimes.{Lfts}
use Rattle.hall.specs.declared.answers.Refusal.{Refusal}
use Rattle.hall.specs.declared.bands.Band.{Band}
use Rattle.hall.specs.declared.entries.Entry.{Entry}
use Rattle.hall.specs.declared.keys.Key.{Key}
use Rattle.hall.specs.declared.keys.Reading.{Reading}
use Rattle.hall.proofs.OneToOne.{answer_one_to_one, key_one_to_one}
use Rattle.hall.proofs.answers.U32FromRefusal.from.Reads.{Post as refusal_number_promise}
use Rattle.hall.proofs.answers.number_of.Reads.{Post as answer_number_promise}
use Rattle.hall.proofs.keys.Key.first_of.Reads.{Post as first_of_promise}
use Rattle.hall.proofs.keys.Key.of.Reads.{Post as key_of_promise}
use Rattle.hall.proofs.keys.Key.fault.Reads.{Post as key_fault_promise}
use Rattle.hall.proofs.bands.Band.holds.Reads.{Post as holds_promise}
use Rattle.hall.proofs.bands.Band.fault.Reads.{Post as band_fault_promise}
use Rattle.hall.proofs.entries.Entry.fault.Reads.{Post as entry_fault_promise}

module _ (κs : Lfts 0) where
  -- the numbers of refusals and answers
  pub refusal_number_settled : (given x y : Refusal × Unit {0}) (a b : ℕ) → refusal_number_promise κs given a x → refusal_number_promise κs given b y → a ≡ b
  refusal_number_settled given x y a b p q = p ∙ sym q

  pub answer_number_settled : (given x y : Result Unit Refusal × Unit {0}) (a b : ℕ) → answer_number_promise κs given a x → answer_number_promise κs given b y → a ≡ b
  answer_number_settled given x y a b p q = p ∙ sym q

  -- keys
  pub first_of_settled : (given x y : ℕ × Unit {0}) (a b : Option Key) → first_of_promise κs given a x → first_of_promise κs given b y → a ≡ b
  first_of_settled given x y a b p q = key_one_to_one a b (p ∙ sym q)

  pub key_of_settled : (given x y : ℕ × (ℕ × (Reading × Unit {0}))) (a b : Option Key) → key_of_promise κs given a x → key_of_promise κs given b y → a ≡ b
  key_of_settled given x y a b p q = key_one_to_one a b (p ∙ sym q)

  pub key_fault_settled : (given x y : Key × Unit {0}) (a b : Result Unit Refusal) → key_fault_promise κs given a x → key_fault_promise κs given b y → a ≡ b
  key_fault_settled given x y a b p q = answer_one_to_one a b (p ∙ sym q)

  -- bands and entries
  pub holds_settled : (given x y : Band × (Key × Unit {0})) (a b : Bool) → holds_promise κs given a x → holds_promise κs given b y → a ≡ b
  holds_settled given x y a b p q = p ∙ sym q

  pub band_fault_settled : (given x y : Band × Unit {0}) (a b : Result Unit Refusal) → band_fault_promise κs given a x → band_fault_promise κs given b y → a ≡ b
  band_fault_settled given x y a b p q = answer_one_to_one a b (p ∙ sym q)

  pub entry_fault_settled : (given x y : Entry × Unit {0}) (a b : Result Unit Refusal) → entry_fault_promise κs given a x → entry_fault_promise κs given b y → a ≡ b
  entry_fault_settled given x y a b p q = answer_one_to_one a b (p ∙ sym q)

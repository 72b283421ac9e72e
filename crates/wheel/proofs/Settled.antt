-- No second answer meets the promise of a turn: of two that meet what its `ensures` says, whatever place it was given, both are equal with level and next
-- place. Stated of the promise itself: one that said less would not settle the answer.
-- Assumes nothing.
use Prim.{Unit}
use mathlib.Core.Path.{◌≡◌, sym, ap, ◌∙◌}
use contract.Lifetimes.{Lfts}
use Rattle.std.specs.Prelude.{Result, Ok, Err}
use Rattle.hall.specs.declared.answers.Refusal.{Refusal}
use Rattle.hall.proofs.OneToOne.{refusal_one_to_one, no_refusal_says_0}
use Rattle.wheel.specs.Says.{turned_says}
use Rattle.wheel.specs.declared.places.Place.{Place}
use Rattle.wheel.specs.declared.turning.Turned.{Turned}
use Rattle.wheel.proofs.turning.turn.Reads.{Post as turn_promise}

-- what an answer says tells it back
turned_told_back : (a b : Result Turned Refusal) → turned_says a ≡ turned_says b → a ≡ b
turned_told_back (Ok a) (Ok b) same = λ i. Ok (record { level = (same i).read.level; next = record { 0 = (same i).read.next } })
turned_told_back (Ok a) (Err s) same = absurd (no_refusal_says_0 s (sym (ap (λ t. t.refusal) same)))
turned_told_back (Err r) (Ok b) same = absurd (no_refusal_says_0 r (ap (λ t. t.refusal) same))
turned_told_back (Err r) (Err s) same = ap Err (refusal_one_to_one r s (ap (λ t. t.refusal) same))

pub turn_settled : (κs : Lfts 0) (given x y : Place × Unit {0}) (a b : Result Turned Refusal)
    → turn_promise κs given a x → turn_promise κs given b y → a ≡ b
turn_settled κs given x y a b p q = turned_told_back a b (p ∙ sym q)

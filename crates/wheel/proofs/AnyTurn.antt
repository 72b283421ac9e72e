-- What an answer means that meets the promise of a turn, in plain arithmetic, whatever place was given; and what turn after turn gives.
-- Assumes nothing.
use Prim.{Unit}
use Prim.Native.Nat.{ℕ, zero, suc, ◌+◌, ◌≤◌, ◌<◌, min}
use mathlib.Core.Path.{◌≡◌, refl, sym, ap, ◌∙◌}
use mathlib.Core.Logic.{◌⊎◌}
use contract.Lifetimes.{Lfts}
use native.Mathlib.Omega.{arith}
use Rattle.std.specs.Prelude.{Result, Ok, Err}
use Rattle.rules.specs.BoxSaysNo.{saying}
use Rattle.rules.specs.Wheel.{trailing_zero_bits, wheel_level, next_place, place_after, turn_of, no_turn, turn_answer}
use Rattle.rules.proofs.TrailingZeros.{TimesOdd}
use Rattle.rules.proofs.Wheel.{OnWheel, trailing_zero_bits_mean, turn_on_wheel, turn_off_wheel, next_of_last, next_of_other, next_on_wheel, after_turns_on_wheel, levels_in_turn}
use Rattle.hall.specs.declared.answers.Refusal.{Refusal}
use Rattle.hall.proofs.OneToOne.{refusal_one_to_one, no_refusal_says_0}
use Rattle.wheel.specs.Says.{turned_says}
use Rattle.wheel.specs.declared.places.Place.{Place}
use Rattle.wheel.specs.declared.turning.Turned.{Turned}
use Rattle.wheel.proofs.turning.turn.Reads.{Post as turn_promise}

-- of a place on the wheel: it is taken, with the level of the rule and the next place
pub record Taken (place : ℕ) (answer : Result Turned Refusal) : Type 0 where
  pub t : Turned
  pub taken : answer ≡ Ok t
  pub level : t.level ≡ min 8 (1 + trailing_zero_bits place)
  pub by_power : (z : ℕ) → TimesOdd z place → t.level ≡ min 8 (1 + z)
  pub next : place < 1024 → t.next.0 ≡ place + 1
  pub round : place ≡ 1024 → t.next.0 ≡ 1
  pub goes_on : (1 ≤ t.next.0) × (t.next.0 ≤ 1024)

-- of any other: it is refused by the refusal whose number is 7, beside which the answer says level 0 and next place 0
pub record Refused (answer : Result Turned Refusal) : Type 0 where
  pub refused : answer ≡ Err Refusal.LevelWrong
  pub says_7 : turned_says answer ≡ saying 7 (turn_of 0 0)

-- ---- what an answer is that says this

accepted : (answer : Result Turned Refusal) (level next : ℕ) → turned_says answer ≡ saying 0 (turn_of level next)
    → answer ≡ Ok (record { level = level; next = record { 0 = next } })
accepted (Ok t) level next told = λ i. Ok (record { level = (told i).read.level; next = record { 0 = (told i).read.next } })
accepted (Err r) level next told = absurd (no_refusal_says_0 r (ap (λ s. s.refusal) told))

refused : (answer : Result Turned Refusal) → turned_says answer ≡ saying 7 no_turn → answer ≡ Err Refusal.LevelWrong
refused (Ok t) told = absurd (no_refusal_says_0 Refusal.LevelWrong (sym (ap (λ s. s.refusal) told)))
refused (Err r) told = ap Err (refusal_one_to_one r Refusal.LevelWrong (ap (λ s. s.refusal) told))

-- ---- one turn

module _ (κs : Lfts 0) (given end : Place × Unit {0}) (answer : Result Turned Refusal) (meets : turn_promise κs given answer end) where
  pub turn_taken : (1 ≤ given.0.0) × (given.0.0 ≤ 1024) → Taken given.0.0 answer
  unfolding wheel_level
  turn_taken on =
      record {
        t = record { level = wheel_level given.0.0; next = record { 0 = next_place given.0.0 } };
        taken = accepted answer _ _ (meets ∙ turn_on_wheel given.0.0 on);
        level = refl;
        by_power = λ z odd. ap (λ y. min 8 (1 + y)) ((trailing_zero_bits_mean given.0.0 z on.0).1 odd);
        next = λ below. next_of_other given.0.0 (λ e. omega arith);
        round = λ last. ap next_place last ∙ next_of_last;
        goes_on = next_on_wheel given.0.0 on;
      }

  pub turn_refused : (given.0.0 ≡ 0) ⊎ (1024 < given.0.0) → Refused answer
  turn_refused off =
      let told = meets ∙ turn_off_wheel given.0.0 off in
      record { refused = refused answer told; says_7 = told }

-- ---- turns one after the other, the first from place 1, each from the next place of the one before it

module _ (κs : Lfts 0) (given end : ℕ → Place × Unit {0}) (answer : ℕ → Result Turned Refusal)
    (turned : (n : ℕ) → turn_promise κs (given n) (answer n) (end n))
    (first : (given 0).0.0 ≡ 1)
    (others : (n : ℕ) (t : Turned) → answer n ≡ Ok t → (given (suc n)).0 ≡ t.next) where
  -- what a turn from a place on the wheel comes to
  from : (n place : ℕ) → (given n).0.0 ≡ place → OnWheel place
      → answer n ≡ Ok (record { level = wheel_level place; next = record { 0 = next_place place } })
  from n place e on = accepted (answer n) _ _ (turned n ∙ ap turn_answer e ∙ turn_on_wheel place on)

  in_turn : (n : ℕ) → (given n).0.0 ≡ place_after n
  in_turn zero = first
  in_turn (suc n) =
      ap (λ p. p.0) (others n _ (from n (place_after n) (in_turn n) (after_turns_on_wheel n)))

  -- none is refused, and the levels that come back are the rule's at 1, 2, 3 and so on, however far round
  pub levels_taken_in_turn : (n : ℕ) → (t : Turned) × (answer n ≡ Ok t) × (t.level ≡ min 8 (1 + trailing_zero_bits (n + 1)))
  unfolding wheel_level
  levels_taken_in_turn n = (_, from n (place_after n) (in_turn n) (after_turns_on_wheel n), levels_in_turn n)

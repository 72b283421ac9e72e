-- "A wheel of levels": what its rule says in plain arithmetic, that its levels are ones that insert takes, that the rule carries on past 1,024 and is what
-- going round the wheel gives, and which places are refused.
-- Assumes nothing.
use Prim.Native.Nat.{ℕ, zero, suc, ◌+◌, ◌-◌, ◌*◌, ◌/◌, ◌^◌, ◌≤◌, ◌<◌, min}
use native.Mathlib.Omega.{arith}
use mathlib.Core.Path.{◌≡◌, refl, sym, ap, ◌∙◌}
use mathlib.Core.Logic.{◌↔◌, ◌⊎◌, ⊎_elim}
use lib.Count.{count_trailing_zeros}
use lib.Pow.{pow_mono}
use borrow.Author.Tests.{ne_eqb}
use Rattle.rules.specs.HallLine.{Band}
use Rattle.rules.specs.NodesLanesEdges.{lanes}
use Rattle.rules.specs.Profile.{Profile}
use Rattle.rules.specs.Room.{Room}
use Rattle.rules.specs.BoxSaysNo.{saying}
use Rattle.rules.specs.Wheel.{wheel_places, trailing_zero_bits, wheel_level, next_place, place_on_wheel, place_after, off_wheel, turn_refusal, turn_of, no_turn, turn_answer}
use Rattle.rules.proofs.Means.{Means, Fails, reworded, so_or_not, denied, or_means, or_fails, eq_means, lt_means, lt_fails}
use Rattle.rules.proofs.FirstLine.{last_own, last_zero}
use Rattle.rules.proofs.NodesLanesEdges.{Level}
use Rattle.rules.proofs.InsertRefused.{InsertGives}
use Rattle.rules.proofs.TrailingZeros.{TimesOdd, below_its_power, trailing_zeros_mean, enough_bits, bits_cap, low_bits_alone}

-- a place is on the wheel
abbrev pub OnWheel : ℕ → Type 0
OnWheel place = (1 ≤ place) × (place ≤ wheel_places)

-- ---- the rule

-- the trailing zero bits of i are z exactly when i is 2 ^ z times an odd number
pub trailing_zero_bits_mean : (i z : ℕ) → 0 < i → (trailing_zero_bits i ≡ z) ↔ TimesOdd z i
trailing_zero_bits_mean i z p = trailing_zeros_mean i i z p (below_its_power i)

-- since levels stop at 8, the seven lowest bits decide
seven_bits : (i : ℕ) → 0 < i → wheel_level i ≡ 1 + count_trailing_zeros 7 i
unfolding wheel_level
seven_bits i p =
    let above : i < 2 ^ (7 + i) = omega (arith, below_its_power i, pow_mono {i = i} {j = 7 + i} (omega arith)) in
    let same = enough_bits i (7 + i) i p (below_its_power i) above in
    omega (arith, bits_cap 7 i i, same)

-- so the lowest bits may be looked at, any number of them from seven on, as those of a word
pub level_by_bits : (k i : ℕ) → 0 < i → wheel_level i ≡ min lanes (1 + count_trailing_zeros (7 + k) i)
level_by_bits k i p = omega (arith, seven_bits i p, bits_cap 7 k i)

-- whatever the wheel has is a level, 1 to 8
pub wheel_has_levels : (i : ℕ) → Level (wheel_level i)
unfolding wheel_level
wheel_has_levels i = omega arith

level_right : (i : ℕ) → (wheel_level i < 1) ⊎ (lanes < wheel_level i) → ⊥
level_right i = let level = wheel_has_levels i in ⊎_elim (λ below. omega arith) (λ above. omega arith)

-- so 7 is never the number of an insert whose levels are both the wheel's
pub wheel_not_refused : {Unsound Sound : Type 0} {room : Room} {p : Profile} {b : Band} {n : ℕ} (i j : ℕ)
    → InsertGives Unsound Sound room p b (wheel_level i) (wheel_level j) n → n ≡ 7 → ⊥
wheel_not_refused i j gives e = ⊎_elim (level_right i) (level_right j) (gives.gives_7.0 e).2

-- ---- past 1,024

rounds : (i m : ℕ) → 0 < i → wheel_level (i + wheel_places * m) ≡ wheel_level i
rounds i m p =
    let far : i + wheel_places * m ≡ i + 2 ^ 7 * (8 * m) = omega arith in
    seven_bits (i + wheel_places * m) (omega arith)
    ∙ ap (λ n. 1 + count_trailing_zeros 7 n) far
    ∙ ap (λ z. 1 + z) (low_bits_alone 7 i (8 * m))
    ∙ sym (seven_bits i p)

-- the rule at i is the wheel's entry at the place that i is on
pub rule_carries_on : (i : ℕ) → 0 < i → wheel_level (place_on_wheel i) ≡ wheel_level i
rule_carries_on i p =
    let split : i ≡ place_on_wheel i + wheel_places * ((i - 1) / wheel_places) = omega arith in
    sym (ap wheel_level split ∙ rounds (place_on_wheel i) ((i - 1) / wheel_places) (omega arith))

-- 1,024 is followed by 1, and any other place by the one after it
pub next_of_last : next_place wheel_places ≡ 1
unfolding next_place
next_of_last = refl

pub next_of_other : (place : ℕ) → (place ≡ wheel_places → ⊥) → next_place place ≡ place + 1
unfolding next_place
next_of_other place h = rw (ne_eqb place wheel_places h)

-- so the next place is that of the next number
pub next_carries_on : (i : ℕ) → 0 < i → next_place (place_on_wheel i) ≡ place_on_wheel (i + 1)
next_carries_on i p =
    ⊎_elim
    (λ e. ap next_place e ∙ next_of_last ∙ omega arith)
    (λ other. next_of_other (place_on_wheel i) other ∙ omega arith)
    (so_or_not (eq_means (place_on_wheel i) wheel_places))

-- so whoever goes round from place 1 takes the levels of the rule, one number after the other, however far
pub after_turns : (turns : ℕ) → place_after turns ≡ place_on_wheel (turns + 1)
after_turns zero = refl
after_turns (suc turns) = ap next_place (after_turns turns) ∙ next_carries_on (turns + 1) (omega arith) ∙ ap place_on_wheel (omega arith)

pub after_turns_on_wheel : (turns : ℕ) → OnWheel (place_after turns)
after_turns_on_wheel turns = let there = after_turns turns in omega arith

pub levels_in_turn : (turns : ℕ) → wheel_level (place_after turns) ≡ wheel_level (turns + 1)
levels_in_turn turns = ap wheel_level (after_turns turns) ∙ rule_carries_on (turns + 1) (omega arith)

-- ---- which places are refused

pub record TurnGives (place n : ℕ) : Type 0 where
  pub gives_7 : (n ≡ 7) ↔ ((place ≡ 0) ⊎ (wheel_places < place))
  pub gives_0 : (n ≡ 0) ↔ OnWheel place

module _ (place : ℕ) where
  pub off_wheel_means : Means (off_wheel place).applies ((place ≡ 0) ⊎ (wheel_places < place))
  off_wheel_means = or_means (eq_means place 0) (lt_means wheel_places place)

  pub off_wheel_fails : Fails (off_wheel place).applies (OnWheel place)
  off_wheel_fails =
      reworded (or_fails (denied (eq_means place 0)) (lt_fails wheel_places place)) (λ h. (omega (arith, h), h.1)) (λ h. (λ e. omega arith, h.1))

  pub turn_gives : TurnGives place (turn_refusal place)
  unfolding turn_refusal
  turn_gives = record { gives_7 = last_own 7 (omega arith) off_wheel_means; gives_0 = last_zero 7 (omega arith) off_wheel_fails }

  -- the next place of a place on the wheel is on it too
  pub next_on_wheel : OnWheel place → OnWheel (next_place place)
  next_on_wheel on =
      ⊎_elim
      (λ e. omega (arith, ap next_place e ∙ next_of_last))
      (λ other. omega (arith, next_of_other place other))
      (so_or_not (eq_means place wheel_places))

  -- what comes back of a place on the wheel
  pub turn_on_wheel : OnWheel place → turn_answer place ≡ saying 0 (turn_of (wheel_level place) (next_place place))
  unfolding turn_answer
  turn_on_wheel on = rw (turn_gives.gives_0.1 on)

  -- and of any other
  pub turn_off_wheel : (place ≡ 0) ⊎ (wheel_places < place) → turn_answer place ≡ saying 7 no_turn
  unfolding turn_answer
  turn_off_wheel off = rw (turn_gives.gives_7.1 off)

-- Free words: what the test of zeros means word by word, and how it goes from one word to the next.
-- Assumes nothing.
use Prim.Native.Nat.{ℕ, zero, suc, ◌+◌, ◌-◌, ◌≤◌, ◌<◌, min}
use mathlib.Core.Path.{◌≡◌, refl, sym, subst}
use mathlib.Core.Bool.{true}
use mathlib.Core.Logic.{⊎_elim}
use mathlib.Core.List.{List}
use native.Mathlib.Nat.{eq-or-lt_of_le}
use native.Mathlib.Omega.{arith}
use lib.Dec.{eqb}
use lib.ListN.{length, get_or, get_or-eq_default, drop, length-drop}
use Rattle.std.proofs.lemmas.List.{take_min}
use Rattle.std.specs.List.{list_all, slice_range}
use Rattle.rules.specs.Connectives.{◌and◌}
use Rattle.rules.proofs.Means.{Means, reworded, and_means, eq_means, at_most_or_above}
use Rattle.store.specs.SaidMarks.{between}
use Rattle.store.proofs.Between.{next_between, none_between}
use Rattle.checking.specs.Zeros.{zeros_between}
use Rattle.checking.proofs.AllOf.{all_are}

-- one word, and then those after it
zeros_next : (from to : ℕ) (words : List ℕ) → from < min to (length words)
    → zeros_between from to words ≡ eqb (get_or words from 0) 0 and zeros_between (from + 1) to words
unfolding zeros_between
zeros_next from to words h = rw (next_between from to words h)

-- done where no word is left
zeros_done : (from to : ℕ) (words : List ℕ) → min to (length words) ≤ from → zeros_between from to words ≡ true
unfolding zeros_between
zeros_done from to words h = rw (none_between from to words h)

-- the words as the code has them: where it ends, and where it starts, it stays within those that there are
among : (from to : ℕ) (words : List ℕ) {start end : ℕ} → end ≡ min to (length words) → start ≡ min from end
    → slice_range words start end ≡ between from to words
unfolding between
among from to words {start} {end} e s =
    ⊎_elim
    (λ past. let none : end - start ≡ 0 = omega arith in rw none (sym (none_between from to words (omega arith))))
    (λ (before : from < end).
    let first : start ≡ from = omega arith in
    let left : end - start ≡ min (to - from) (length (drop from words)) = simp length-drop (omega arith) in
    rw (left, first) (take_min (to - from) (drop from words)))
    (at_most_or_above end from)

pub zeros_among : (from to : ℕ) (words : List ℕ) {start end : ℕ} → end ≡ min to (length words) → start ≡ min from end
    → list_all (λ w. eqb w 0) (slice_range words start end) ≡ zeros_between from to words
unfolding zeros_between
zeros_among from to words e s = rw (among from to words e s) (all_are _ _)

-- each word from one index up to another is 0
abbrev AllZero : ℕ → ℕ → List ℕ → Type 0
AllZero from to words = (q : ℕ) → from ≤ q → q < to → get_or words q 0 ≡ 0

-- words past the end read as 0, so that the test means the same with and without them
pub zeros_mean : (from to : ℕ) (words : List ℕ) → Means (zeros_between from to words) (AllZero from to words)
zeros_mean from to words = go (min to (length words) - from) from refl
  where
    go : (left from : ℕ) → min to (length words) - from ≡ left → Means (zeros_between from to words) (AllZero from to words)
    go zero from e =
        record {
          fact = λ t q a b. get_or-eq_default words 0 (omega arith);
          test = λ h. zeros_done from to words (omega arith);
        }
    go (suc left) from e =
        rw (zeros_next from to words (omega arith))
        (reworded (and_means (eq_means (get_or words from 0) 0) (go left (from + 1) (omega arith)))
        (λ h q a b. ⊎_elim (λ s. subst (λ i. get_or words i 0 ≡ 0) s h.0) (λ l. h.1 q (omega arith) b) (eq-or-lt_of_le a))
        (λ h. (h from (omega arith) (omega arith), λ q a b. h q (omega arith) b)))

-- Setting a number's flag in the words of a list gives the words of the list with that number; a flag reads as set for the members alone.
-- Shown for any test of numbers and any number of bits or words, and put to sixteen words last. Assumes nothing.
use Prim.Native.Nat.{ℕ, zero, suc, ◌+◌, ◌*◌, ◌/◌, ◌%◌, ◌^◌, ◌≤◌, ◌<◌, max}
use native.Mathlib.Nat.{not-suc-le-zero, le_of_suc-le-suc, zero-add, pow-succ'}
use native.Mathlib.Omega.{arith}
use mathlib.Core.Path.{◌≡◌, refl, sym, ap, ap₂, ◌∙◌}
use mathlib.Core.Bool.{Bool, true, false, cond}
use mathlib.Core.List.{List, [], ◌∷◌, ◌++◌, append-nil}
use borrow.Author.Tests.{ltb-true, ltb-false, eq-eqb, ne_eqb}
use lib.Dec.{eqb, ltb}
use lib.ListN.{length, get_or, set, length-set}
use lib.Bits.{bit_or, or_step, or_zero_r}
use Rattle.rules.specs.Connectives.{◌or◌, one_if}
use Rattle.rules.specs.Lists.{member}
use Rattle.rules.specs.Flags.{flag_count, flags_of, bits_from, words_from}
use Rattle.rules.proofs.Means.{same_means}
use Rattle.rules.proofs.Lists.{member_means, in_middle}
use Rattle.rules.proofs.Sums.{at_most_one}
use Rattle.rules.proofs.Flags.{flag_of_member, flags_by_members}
use Rattle.flags.specs.FlagWords.{with_flag, with_flags, flag_is_set}

-- a bit-wise or goes by the lowest bits and the rest
or_lowest : (t u x y : ℕ) → t ≤ 1 → u ≤ 1 → bit_or (t + 2 * x) (u + 2 * y) ≡ max t u + 2 * bit_or x y
or_lowest t u x y s r =
    let p : (t + 2 * x) / 2 ≡ x = omega arith in
    let q : (u + 2 * y) / 2 ≡ y = omega arith in
    rw (or_step (t + 2 * x) (u + 2 * y), p, q) (omega arith)

-- ---- with one more number to pass the test, the words change in that number's bit alone

module _ (f : ℕ → Bool) (n : ℕ) where
  abbrev or_number : ℕ → Bool
  or_number k = eqb k n or f k

  other_number : (k : ℕ) → (k ≡ n → ⊥) → or_number k ≡ f k
  unfolding ◌or◌
  other_number k h = rw (ne_eqb k n h)

  number_itself : (k : ℕ) → k ≡ n → one_if (or_number k) ≡ 1
  unfolding ◌or◌
  number_itself k e = rw (eq-eqb k n e)

  -- a word that does not reach the number stays
  bits_elsewhere : (a m : ℕ) → ((k : ℕ) → a ≤ k → k < a + m → k ≡ n → ⊥) → bits_from or_number a m ≡ bits_from f a m
  bits_elsewhere a zero h = refl
  bits_elsewhere a (suc m) h =
      rw (other_number a (h a (omega arith) (omega arith)), bits_elsewhere (suc a) m (λ k l u. h k (omega arith) (omega arith)))

  -- so do the words after its word
  words_past : (j m : ℕ) → n < j * 64 → words_from or_number j m ≡ words_from f j m
  words_past j zero h = refl
  words_past j (suc m) h =
      ap₂ (λ (w : ℕ) (ws : List ℕ). w ∷ ws) (bits_elsewhere (j * 64) 64 (λ k l u e. omega arith)) (words_past (suc j) m (omega arith))

  -- the number's own word gets its bit
  bit_added : (a m b : ℕ) → b < m → a + b ≡ n → bit_or (bits_from f a m) (2 ^ b) ≡ bits_from or_number a m
  bit_added a zero b h e = absurd (not-suc-le-zero h)
  bit_added a (suc m) zero h e =
      or_lowest (one_if (f a)) 1 (bits_from f (suc a) m) 0 (at_most_one (f a)) (omega arith)
      ∙ omega (
        arith,
        at_most_one (f a),
        number_itself a (omega arith),
        or_zero_r (bits_from f (suc a) m),
        bits_elsewhere (suc a) m (λ k l u same. omega arith),
      )
  bit_added a (suc m) (suc b) h e =
      rw (pow-succ', ← zero-add (2 * 2 ^ b))
      (or_lowest (one_if (f a)) 0 (bits_from f (suc a) m) (2 ^ b) (at_most_one (f a)) (omega arith)
      ∙ omega (
        arith,
        ap one_if (other_number a (λ same. omega arith)),
        bit_added (suc a) m b (le_of_suc-le-suc h) (omega arith),
      ))

  -- number n is bit b of word i, the words counted from word j on
  words_added : (j m i b : ℕ) → i < m → b < 64 → (j + i) * 64 + b ≡ n
      → set (words_from f j m) i (bit_or (get_or (words_from f j m) i 0) (2 ^ b)) ≡ words_from or_number j m
  words_added j zero i b h l e = absurd (not-suc-le-zero h)
  words_added j (suc m) zero b h l e =
      ap₂ (λ (w : ℕ) (ws : List ℕ). w ∷ ws) (bit_added (j * 64) 64 b l (omega arith)) (sym (words_past (suc j) m (omega arith)))
  words_added j (suc m) (suc i) b h l e =
      ap₂ (λ (w : ℕ) (ws : List ℕ). w ∷ ws)
      (sym (bits_elsewhere (j * 64) 64 (λ k lo hi same. omega arith)))
      (words_added (suc j) m i b (le_of_suc-le-suc h) l (omega arith))

-- ---- the flags of lists

-- a number above 1,023 has no flag, and adds none
pub flag_added : (xs : List ℕ) (n : ℕ) → with_flag (flags_of xs) n ≡ flags_of (n ∷ xs)
unfolding with_flag flags_of
flag_added xs n = go (ltb n 1024) refl
  where
    go : (t : Bool) → ltb n 1024 ≡ t
        → cond t (set (flags_of xs) (n / 64) (bit_or (get_or (flags_of xs) (n / 64) 0) (2 ^ (n % 64)))) (flags_of xs) ≡ flags_of (n ∷ xs)
    go true e =
        let in_reach = ltb-true n 1024 e in
        words_added (λ k. member k xs) n 0 16 (n / 64) (n % 64) (omega arith) (omega arith) (omega arith)
    go false e =
        let above = ltb-false n 1024 e in
        flags_by_members xs (n ∷ xs) (λ k h. sym (other_number (λ k. member k xs) n k (λ same. omega arith)))

-- the order in which flags are set does not count
pub flags_added : (xs ms : List ℕ) → with_flags (flags_of xs) ms ≡ flags_of (xs ++ ms)
flags_added xs [] = rw append-nil
flags_added xs (m ∷ ms) =
    rw (flag_added xs m) (flags_added (m ∷ xs) ms)
    ∙ flags_by_members (m ∷ xs ++ ms) (xs ++ m ∷ ms) (λ n h.
    let e = in_middle m n xs ms in same_means (member_means n (m ∷ xs ++ ms)) (member_means n (xs ++ m ∷ ms)) e.1 e.0)

one_if_so : (t : Bool) → eqb (one_if t) 1 ≡ t
one_if_so true = refl
one_if_so false = refl

pub flag_is_member : (xs : List ℕ) (n : ℕ) → n < flag_count → flag_is_set (flags_of xs) n ≡ member n xs
unfolding flag_is_set
flag_is_member xs n h = rw (flag_of_member xs n h) (one_if_so (member n xs))

pub flag_words_length : (ws : List ℕ) (n : ℕ) → length (with_flag ws n) ≡ length ws
unfolding with_flag
flag_words_length ws n = go (ltb n 1024)
  where
    go : (t : Bool) → length (cond t (set ws (n / 64) (bit_or (get_or ws (n / 64) 0) (2 ^ (n % 64)))) ws) ≡ length ws
    go true = simp length-set
    go false = refl

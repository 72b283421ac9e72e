-- The laws of flag words: number n is bit n mod 64 of word n div 64; sixteen words, each below 2 ^ 64, are those of exactly one set of numbers
-- below 1,024; the ones in them are the count of that set, which is the length of a list of such numbers without repeats.
-- Each law is shown for any test of numbers and any number of bits or words, and put to 16 words and 1,024 flags last.
-- Assumes nothing.
use Prim.Native.Nat.{ℕ, zero, suc, ◌+◌, ◌*◌, ◌/◌, ◌%◌, ◌^◌, ◌≤◌, ◌<◌}
use native.Mathlib.Nat.{not-suc-le-zero, le_of_suc-le-suc, add-zero, zero-add, add-suc, suc-add, suc-mul, div-one, div-div-eq-div-mul, pow-succ'}
use native.Mathlib.Omega.{arith}
use mathlib.Core.Path.{◌≡◌, refl, sym, ap, ap₂, ◌∙◌}
use mathlib.Core.Logic.Iff
use mathlib.Core.Logic.{◌↔◌}
use mathlib.Core.Bool.{Bool, true, false, not}
use mathlib.Core.List.{List, [], ◌∷◌}
use borrow.Author.Tests.{ltb-true, eqb-true, eqb-false, ne_eqb, not-true}
use lib.Dec.{eqb, ltb}
use lib.ListN.{length, get_or, replicate}
use lib.Count.{ones, ones_step}
use Rattle.rules.specs.Connectives.{◌and◌, ◌or◌, one_if}
use Rattle.rules.specs.Lists.{all, sum_of, member, distinct, count_from}
use Rattle.rules.specs.Flags.{flag_count, flags_of, flag_at, count_of, set_flags, bits_from, words_from}
use Rattle.rules.proofs.Means.{and_both, lt_means}
use Rattle.rules.proofs.Lists.{In, Each, each_cons, all_means, member_means, Distinct, distinct_means}
use Rattle.rules.proofs.Sums.{at_most_one, either_and_both}

one_if_one_to_one : (b c : Bool) → one_if b ≡ one_if c → b ≡ c
one_if_one_to_one true true e = refl
one_if_one_to_one true false e = absurd (omega arith)
one_if_one_to_one false true e = absurd (omega arith)
one_if_one_to_one false false e = refl

shift_once_more : (x i : ℕ) → x / 2 ^ suc i ≡ x / 2 / 2 ^ i
shift_once_more x i = rw pow-succ' (sym (div-div-eq-div-mul x 2 (2 ^ i)))

-- ---- a word of m bits for the numbers from a on, and their count

module _ (f : ℕ → Bool) where
  -- a word is its lowest bit and the word of the numbers after it: the laws below go by that
  bits_lowest : (a m : ℕ) → bits_from f a (suc m) % 2 ≡ one_if (f a)
  bits_lowest a m = omega (arith, at_most_one (f a))

  bits_rest : (a m : ℕ) → bits_from f a (suc m) / 2 ≡ bits_from f (suc a) m
  bits_rest a m = omega (arith, at_most_one (f a))

  pub bits_below_power : (a m : ℕ) → bits_from f a m < 2 ^ m
  bits_below_power a zero = omega arith
  bits_below_power a (suc m) = omega (arith, at_most_one (f a), bits_below_power (suc a) m)

  pub bit_of_number : (a m i : ℕ) → i < m → bits_from f a m / 2 ^ i % 2 ≡ one_if (f (a + i))
  bit_of_number a zero i h = absurd (not-suc-le-zero h)
  bit_of_number a (suc m) zero h = rw (div-one, add-zero) (bits_lowest a m)
  bit_of_number a (suc m) (suc i) h =
      rw (shift_once_more, bits_rest a m, add-suc, ← suc-add) (bit_of_number (suc a) m i (le_of_suc-le-suc h))

  pub ones_of_bits : (a m : ℕ) → ones (bits_from f a m) ≡ count_from f a m
  unfolding ones
  ones_of_bits a zero = refl
  ones_of_bits a (suc m) = rw (ones_step, bits_lowest a m, bits_rest a m, ones_of_bits (suc a) m)

  pub count_at_most : (a m : ℕ) → count_from f a m ≤ m
  count_at_most a zero = omega arith
  count_at_most a (suc m) = omega (arith, at_most_one (f a), count_at_most (suc a) m)

  pub count_splits : (a m n : ℕ) → count_from f a (m + n) ≡ count_from f a m + count_from f (a + m) n
  count_splits a zero n = simp (zero-add, add-zero)
  count_splits a (suc m) n = rw (suc-add, count_splits (suc a) m n, add-suc a, ← suc-add a) (omega arith)

-- ---- m words from word j on

module _ (f : ℕ → Bool) where
  pub length_of_words : (j m : ℕ) → length (words_from f j m) ≡ m
  length_of_words j zero = refl
  length_of_words j (suc m) = ap suc (length_of_words (suc j) m)

  pub words_below_power : (j m : ℕ) → Each (λ w. w < 2 ^ 64) (words_from f j m)
  words_below_power j zero = λ w stands. absurd stands
  words_below_power j (suc m) =
      (each_cons (bits_from f (j * 64) 64) (words_from f (suc j) m)).1 (bits_below_power f (j * 64) 64, words_below_power (suc j) m)

  pub bit_of_word : (j m i b : ℕ) → i < m → b < 64 → get_or (words_from f j m) i 0 / 2 ^ b % 2 ≡ one_if (f ((j + i) * 64 + b))
  bit_of_word j zero i b h l = absurd (not-suc-le-zero h)
  bit_of_word j (suc m) zero b h l = bit_of_number f (j * 64) 64 b l ∙ rw add-zero
  bit_of_word j (suc m) (suc i) b h l = bit_of_word (suc j) m i b (le_of_suc-le-suc h) l ∙ rw (add-suc, suc-add)

  pub flag_in_words : (m n : ℕ) → n < m * 64 → flag_at (words_from f 0 m) n ≡ one_if (f n)
  flag_in_words m n h =
      bit_of_word 0 m (n / 64) (n % 64) (omega arith) (omega arith) ∙ ap (λ (k : ℕ). one_if (f k)) (omega arith)

  -- for any width w: with 64 written here, `count_from` would unroll
  count_with_first_word : (w j m : ℕ) → count_from f (j * w) w + count_from f (suc j * w) (m * w) ≡ count_from f (j * w) (suc m * w)
  count_with_first_word w j m =
      let more : suc m * w ≡ w + m * w = omega arith in
      rw (more, count_splits f (j * w) w (m * w), suc-mul)

  pub ones_of_words : (j m : ℕ) → sum_of ones (words_from f j m) ≡ count_from f (j * 64) (m * 64)
  ones_of_words j zero = refl
  ones_of_words j (suc m) =
      ap₂ (λ (x y : ℕ). x + y) (ones_of_bits f (j * 64) 64) (ones_of_words (suc j) m) ∙ count_with_first_word 64 j m

-- ---- tests that agree below N have the same words and the same counts there

module _ (f g : ℕ → Bool) (N : ℕ) (agree : (n : ℕ) → n < N → f n ≡ g n) where
  pub bits_agree : (a m : ℕ) → a + m ≤ N → bits_from f a m ≡ bits_from g a m
  bits_agree a zero h = refl
  bits_agree a (suc m) h = rw (agree a (omega arith), bits_agree (suc a) m (omega arith))

  pub words_agree : (j m : ℕ) → (j + m) * 64 ≤ N → words_from f j m ≡ words_from g j m
  words_agree j zero h = refl
  words_agree j (suc m) h =
      ap₂ (λ (w : ℕ) (ws : List ℕ). w ∷ ws) (bits_agree (j * 64) 64 (omega arith)) (words_agree (suc j) m (omega arith))

  pub counts_agree : (a m : ℕ) → a + m ≤ N → count_from f a m ≡ count_from g a m
  counts_agree a zero h = refl
  counts_agree a (suc m) h = rw (agree a (omega arith), counts_agree (suc a) m (omega arith))

-- ---- the sixteen words of a test

module _ (f : ℕ → Bool) where
  pub flag_of_number : (n : ℕ) → n < 1024 → flag_at (words_from f 0 16) n ≡ one_if (f n)
  flag_of_number = flag_in_words f 16

  pub ones_are_the_count : sum_of ones (words_from f 0 16) ≡ count_from f 0 1024
  ones_are_the_count = ones_of_words f 0 16

module _ (f g : ℕ → Bool) where
  pub flags_by_bits : ((n : ℕ) → n < 1024 → f n ≡ g n) → words_from f 0 16 ≡ words_from g 0 16
  flags_by_bits agree = words_agree f g 1024 agree 0 16 (omega arith)

  pub bits_by_flags : words_from f 0 16 ≡ words_from g 0 16 → (n : ℕ) → n < 1024 → f n ≡ g n
  bits_by_flags e n h =
      one_if_one_to_one (f n) (g n)
      (sym (flag_of_number f n h) ∙ ap (λ (ws : List ℕ). flag_at ws n) e ∙ flag_of_number g n h)

-- ---- any words below 2 ^ 64 are the words of the numbers whose flags are set in them

module _ (f : ℕ → Bool) where
  word_of_its_bits : (a m x : ℕ) → x < 2 ^ m → ((i : ℕ) → i < m → x / 2 ^ i % 2 ≡ one_if (f (a + i))) → bits_from f a m ≡ x
  word_of_its_bits a zero x h told = omega arith
  word_of_its_bits a (suc m) x h told =
      let lowest : x % 2 ≡ one_if (f a) = ap (λ (y : ℕ). y % 2) (sym (div-one x)) ∙ told 0 (omega arith) ∙ rw add-zero in
      let half : x / 2 < 2 ^ m = omega (arith, pow-succ' 2 m) in
      let rest = word_of_its_bits (suc a) m (x / 2) half (λ i l. rw (← shift_once_more, suc-add, ← add-suc) (told (suc i) (omega arith))) in
      omega arith

  words_of_their_bits : (j : ℕ) (ws : List ℕ) → Each (λ w. w < 2 ^ 64) ws
      → ((i b : ℕ) → i < length ws → b < 64 → get_or ws i 0 / 2 ^ b % 2 ≡ one_if (f ((j + i) * 64 + b))) → words_from f j (length ws) ≡ ws
  words_of_their_bits j [] below told = refl
  words_of_their_bits j (w ∷ ws) below told =
      let each = (each_cons w ws).0 below in
      ap₂ (λ (x : ℕ) (xs : List ℕ). x ∷ xs)
      (word_of_its_bits (j * 64) 64 w each.0 (λ b l. told 0 b (omega arith) l ∙ rw add-zero))
      (words_of_their_bits (suc j) ws each.1 (λ i b h l. told (suc i) b (omega arith) l ∙ rw (add-suc, suc-add)))

bit_as_told : (x : ℕ) → x % 2 ≡ one_if (eqb (x % 2) 1)
bit_as_told x = go (eqb (x % 2) 1) refl
  where
    go : (t : Bool) → eqb (x % 2) 1 ≡ t → x % 2 ≡ one_if t
    go true e = eqb-true (x % 2) 1 e
    go false e = let not_one = eqb-false (x % 2) 1 e in omega arith

abbrev flagged : List ℕ → ℕ → Bool
flagged ws n = eqb (flag_at ws n) 1

module _ (ws : List ℕ) (below : Each (λ w. w < 2 ^ 64) ws) where
  pub words_of_their_flags : words_from (flagged ws) 0 (length ws) ≡ ws
  words_of_their_flags =
      words_of_their_bits (flagged ws) 0 ws below (λ i b h l.
      let word : ((0 + i) * 64 + b) / 64 ≡ i = omega arith in
      let bit : ((0 + i) * 64 + b) % 64 ≡ b = omega arith in
      rw (word, bit) (bit_as_told (get_or ws i 0 / 2 ^ b)))

  -- so the ones of sixteen words are what is counted a bit at a time
  pub ones_bit_at_a_time : length ws ≡ 16 → sum_of ones ws ≡ set_flags ws
  unfolding set_flags
  ones_bit_at_a_time sixteen =
      ap (sum_of ones) (sym words_of_their_flags ∙ ap (words_from (flagged ws) 0) sixteen) ∙ ones_are_the_count (flagged ws)

pub set_flags_at_most_all : (ws : List ℕ) → set_flags ws ≤ flag_count
unfolding set_flags
set_flags_at_most_all ws = count_at_most (flagged ws) 0 flag_count

-- ---- a list of numbers is counted number by number

count_of_none : (f : ℕ → Bool) → ((n : ℕ) → f n ≡ false) → (a m : ℕ) → count_from f a m ≡ 0
count_of_none f none a zero = refl
count_of_none f none a (suc m) = rw (none a, count_of_none f none (suc a) m)

-- the count of a union, with the count of what is in both
pub count_either_both : (f g : ℕ → Bool) (a m : ℕ)
    → count_from (λ n. f n or g n) a m + count_from (λ n. f n and g n) a m ≡ count_from f a m + count_from g a m
count_either_both f g a zero = refl
count_either_both f g a (suc m) = omega (arith, either_and_both (f a) (g a), count_either_both f g (suc a) m)

module _ (x : ℕ) where
  count_past_number : (a m : ℕ) → x < a → count_from (λ n. eqb n x) a m ≡ 0
  count_past_number a zero h = refl
  count_past_number a (suc m) h = rw (ne_eqb a x (λ e. omega arith), count_past_number (suc a) m (omega arith))

  number_counts_at_most_once : (a m : ℕ) → count_from (λ n. eqb n x) a m ≤ 1
  number_counts_at_most_once a zero = omega arith
  number_counts_at_most_once a (suc m) = go (eqb a x) refl (number_counts_at_most_once (suc a) m)
    where
      go : (t : Bool) → eqb a x ≡ t → count_from (λ n. eqb n x) (suc a) m ≤ 1 → one_if t + count_from (λ n. eqb n x) (suc a) m ≤ 1
      go true e ih = let here = eqb-true a x e in omega (arith, count_past_number (suc a) m (omega arith))
      go false e ih = omega arith

  number_counts_once : (a m : ℕ) → a ≤ x → x < a + m → count_from (λ n. eqb n x) a m ≡ 1
  number_counts_once a zero l h = omega arith
  number_counts_once a (suc m) l h = go (eqb a x) refl (number_counts_once (suc a) m)
    where
      go : (t : Bool) → eqb a x ≡ t → (suc a ≤ x → x < suc a + m → count_from (λ n. eqb n x) (suc a) m ≡ 1)
          → one_if t + count_from (λ n. eqb n x) (suc a) m ≡ 1
      go true e ih = let here = eqb-true a x e in omega (arith, count_past_number (suc a) m (omega arith))
      go false e ih = let off = eqb-false a x e in omega (arith, ih (omega arith) (omega arith))

-- a number that is not in the list is counted apart from it
no_number_both : (x : ℕ) (xs : List ℕ) → member x xs ≡ false → (n : ℕ) → (eqb n x and member n xs) ≡ false
unfolding ◌and◌
no_number_both x xs off n = go (eqb n x) refl
  where
    go : (t : Bool) → eqb n x ≡ t → (t and member n xs) ≡ false
    go true e = ap (λ (k : ℕ). member k xs) (eqb-true n x e) ∙ off
    go false e = refl

pub count_of_list_at_most : (m : ℕ) (ns : List ℕ) → count_from (λ n. member n ns) 0 m ≤ length ns
count_of_list_at_most m [] = omega (arith, count_of_none (λ n. false) (λ n. refl) 0 m)
count_of_list_at_most m (x ∷ xs) =
    omega (arith, count_either_both (λ n. eqb n x) (λ n. member n xs) 0 m, number_counts_at_most_once x 0 m, count_of_list_at_most m xs)

pub count_of_distinct : (m : ℕ) (ns : List ℕ) → all (λ n. ltb n m) ns ≡ true → distinct ns ≡ true
    → count_from (λ n. member n ns) 0 m ≡ length ns
count_of_distinct m [] below apart = count_of_none (λ n. false) (λ n. refl) 0 m
count_of_distinct m (x ∷ xs) below apart =
    let b = and_both (ltb x m) (all (λ n. ltb n m) xs) below in
    let d = and_both (not (member x xs)) (distinct xs) apart in
    let off = not-true (member x xs) d.0 in
    let in_reach = ltb-true x m b.0 in
    omega (
      arith,
      count_either_both (λ n. eqb n x) (λ n. member n xs) 0 m,
      count_of_none (λ n. eqb n x and member n xs) (no_number_both x xs off) 0 m,
      number_counts_once x 0 m (omega arith) (omega arith),
      count_of_distinct m xs b.1 d.1,
    )

-- numbers below m without repeats are at most m
pub so_many_below : (m : ℕ) (ns : List ℕ) → Each (λ n. n < m) ns → Distinct ns → length ns ≤ m
so_many_below m ns below apart =
    omega (
      arith,
      count_of_distinct m ns ((all_means (λ n. lt_means n m) ns).test below) ((distinct_means ns).test apart),
      count_at_most (λ n. member n ns) 0 m,
    )

-- ---- the flags and the count of a list of numbers

module _ (ns : List ℕ) where
  pub flags_length : length (flags_of ns) ≡ 16
  unfolding flags_of
  flags_length = length_of_words (λ n. member n ns) 0 16

  pub flag_words_below_power : Each (λ w. w < 2 ^ 64) (flags_of ns)
  unfolding flags_of
  flag_words_below_power = words_below_power (λ n. member n ns) 0 16

  pub flag_of_member : (n : ℕ) → n < 1024 → flag_at (flags_of ns) n ≡ one_if (member n ns)
  unfolding flags_of
  flag_of_member = flag_of_number (λ n. member n ns)

  pub flag_set_for_member : (n : ℕ) → n < 1024 → (flag_at (flags_of ns) n ≡ 1) ↔ (member n ns ≡ true)
  flag_set_for_member n h =
      ((λ e. one_if_one_to_one (member n ns) true (sym (flag_of_member n h) ∙ e)), (λ e. flag_of_member n h ∙ ap one_if e))

  pub flag_set_where_in : (n : ℕ) → n < 1024 → (flag_at (flags_of ns) n ≡ 1) ↔ In n ns
  flag_set_where_in n h = Iff.trans (flag_set_for_member n h) ((member_means n ns).fact, (member_means n ns).test)

  pub ones_of_flags : sum_of ones (flags_of ns) ≡ count_of ns
  unfolding flags_of count_of
  ones_of_flags = ones_are_the_count (λ n. member n ns)

  pub count_at_most_length : count_of ns ≤ length ns
  unfolding count_of
  count_at_most_length = count_of_list_at_most 1024 ns

  pub count_without_repeats : all (λ n. ltb n 1024) ns ≡ true → distinct ns ≡ true → count_of ns ≡ length ns
  unfolding count_of
  count_without_repeats = count_of_distinct 1024 ns

  pub ones_without_repeats : all (λ n. ltb n 1024) ns ≡ true → distinct ns ≡ true → sum_of ones (flags_of ns) ≡ length ns
  ones_without_repeats below apart = ones_of_flags ∙ count_without_repeats below apart

-- flags are one to one with the set of numbers below 1,024, and the count goes by that set alone
module _ (ms ns : List ℕ) where
  pub flags_by_members : ((n : ℕ) → n < 1024 → member n ms ≡ member n ns) → flags_of ms ≡ flags_of ns
  unfolding flags_of
  flags_by_members = flags_by_bits (λ n. member n ms) (λ n. member n ns)

  pub members_by_flags : flags_of ms ≡ flags_of ns → (n : ℕ) → n < 1024 → member n ms ≡ member n ns
  unfolding flags_of
  members_by_flags = bits_by_flags (λ n. member n ms) (λ n. member n ns)

  pub count_by_members : ((n : ℕ) → n < 1024 → member n ms ≡ member n ns) → count_of ms ≡ count_of ns
  unfolding count_of
  count_by_members agree = counts_agree (λ n. member n ms) (λ n. member n ns) 1024 agree 0 1024 (omega arith)

-- of no number no flag is set
pub flags_of_none : flags_of [] ≡ replicate 16 0
unfolding flags_of
flags_of_none = refl

pub count_of_nothing : count_of [] ≡ 0
unfolding count_of
count_of_nothing = count_of_none (λ n. false) (λ n. refl) 0 1024

-- the flags of a list of numbers that are set are as many as the count of the list
pub set_flags_counted : (ns : List ℕ) → count_of ns ≡ set_flags (flags_of ns)
set_flags_counted ns = sym (ones_of_flags ns) ∙ ones_bit_at_a_time (flags_of ns) (flag_words_below_power ns) (flags_length ns)

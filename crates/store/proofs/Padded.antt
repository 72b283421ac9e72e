-- Words with zeros after them up to a length.
-- Assumes nothing.
use Prim.Native.Nat.{ℕ, zero, suc, ◌+◌, ◌-◌, ◌≤◌, ◌<◌}
use mathlib.Core.Path.{◌≡◌, refl, sym, ◌∙◌, ap}
use mathlib.Core.List.{List, [], ◌∷◌, ◌++◌, append_assoc}
use native.Mathlib.Omega.{arith}
use lib.ListN.{length, get_or, set, take, replicate, length-append, length-set, length-replicate, replicate-append-replicate, get_or-eq_default}
use lib.Seq.{take_at, set-append_left}
use Rattle.store.specs.Padded.{padded}

-- they are as long as asked, where the words are no longer
pub padded_length : (n : ℕ) (words : List ℕ) → length words ≤ n → length (padded n words) ≡ n
unfolding padded
padded_length n words l = simp (length-append, length-replicate) (omega arith)

-- zeros after words read as nothing does there
pub zeros_read : (words : List ℕ) (n i : ℕ) → get_or (words ++ replicate n 0) i 0 ≡ get_or words i 0
zeros_read [] zero i = refl
zeros_read [] (suc n) zero = refl
zeros_read [] (suc n) (suc i) = zeros_read [] n i
zeros_read (w ∷ words) n zero = refl
zeros_read (w ∷ words) n (suc i) = zeros_read words n i

-- so past the words there is 0
pub padded_past : (n : ℕ) (words : List ℕ) (q : ℕ) → length words ≤ q → get_or (padded n words) q 0 ≡ 0
unfolding padded
padded_past n words q l = zeros_read words (n - length words) q ∙ get_or-eq_default words 0 l

module _ (n m : ℕ) (words : List ℕ) (l : length words ≤ n) (h : n ≤ m) where
  -- words padded further are the same with more zeros after them
  padded_further : padded m words ≡ padded n words ++ replicate (m - n) 0
  unfolding padded
  padded_further =
      let more : m - length words ≡ n - length words + (m - n) = omega arith in
      rw (more, append_assoc, replicate-append-replicate)

  -- so the first n of them are the words padded up to n
  pub padded_taken : take n (padded m words) ≡ padded n words
  padded_taken = rw padded_further (take_at (padded n words) (replicate (m - n) 0) n (padded_length n words l))

-- words padded, and again further, are the words padded so far
pub padded_twice : (n m : ℕ) (words : List ℕ) → length words ≤ m → m ≤ n → padded n (padded m words) ≡ padded n words
unfolding padded
padded_twice n m words l h =
    let left : m - length words + (n - length (padded m words)) ≡ n - length words = omega (arith, padded_length m words l) in
    simp (append_assoc, replicate-append-replicate, left)

-- a word put among the words is put before the zeros
pub set_padded : (n : ℕ) (words : List ℕ) (i word : ℕ) → i < length words → set (padded n words) i word ≡ padded n (set words i word)
unfolding padded
set_padded n words i word l =
    set-append_left words (replicate (n - length words) 0) i word l
    ∙ ap (λ k. set words i word ++ replicate (n - k) 0) (sym (length-set words i word))

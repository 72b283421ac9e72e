-- The sixteen words of an answer's flags: setting one number's flag, reading it, and counting those set. Number n is bit n mod 64 of word n div 64.
-- Assumes nothing.
use Rattle.std.specs.Prelude.{ℕ, ◌/◌, ◌%◌, ◌^◌, ◌≤◌, ◌≡◌, Bool, cond, List, [], ◌∷◌, ltb, eqb, get_or, set}
use Rattle.std.specs.Int.Bits.{bit_or}
use Rattle.std.specs.Int.Count.{ones}
use Rattle.rules.specs.Lists.{sum_of}
use Rattle.rules.specs.Flags.{flag_count, bits_per_word, flag_at}

-- the number's flag set; a number above 1,023 has none
unfoldable pub with_flag : List ℕ → ℕ → List ℕ
with_flag ws n =
    cond (ltb n flag_count) (set ws (n / bits_per_word) (bit_or (get_or ws (n / bits_per_word) 0) (2 ^ (n % bits_per_word)))) ws

-- the flags of each number of a list set, one after the other
abbrev pub with_flags : List ℕ → List ℕ → List ℕ
with_flags ws [] = ws
with_flags ws (n ∷ ns) = with_flags (with_flag ws n) ns

-- the number's flag is set
unfoldable pub flag_is_set : List ℕ → ℕ → Bool
flag_is_set ws n = eqb (flag_at ws n) 1

-- r is how many flags are set: the ones of the words, summed
pub record Counted (ws : List ℕ) (r : ℕ) : Type 0 where
  pub sum : r ≡ sum_of ones ws
  pub at_most_all : r ≤ flag_count

-- "The search", the answer's flags: 1,024 flags in sixteen 64-bit words, and the count of those set.
-- Assumes nothing.
use Rattle.std.specs.Prelude.{ℕ, zero, suc, ◌+◌, ◌*◌, ◌/◌, ◌%◌, ◌^◌, Bool, List, [], ◌∷◌, eqb, get_or}
use Rattle.rules.specs.Connectives.{one_if}
use Rattle.rules.specs.Lists.{member, count_from}

-- there are 1,024 flags, one for each band number
abbrev pub flag_count : ℕ
flag_count = 1024

abbrev pub bits_per_word : ℕ
bits_per_word = 64

abbrev pub flag_word_count : ℕ
flag_word_count = 16

-- the word whose bit i, of m bits, is set exactly when number a + i passes
abbrev pub bits_from : (ℕ → Bool) → ℕ → ℕ → ℕ
bits_from f a zero = 0
bits_from f a (suc m) = one_if (f a) + 2 * bits_from f (suc a) m

-- m words from word j on: number n is bit n mod 64 of word n div 64
abbrev pub words_from : (ℕ → Bool) → ℕ → ℕ → List ℕ
words_from f j zero = []
words_from f j (suc m) = bits_from f (j * bits_per_word) bits_per_word ∷ words_from f (suc j) m

-- the sixteen words in which the flags of a list of numbers are set
unfoldable pub flags_of : List ℕ → List ℕ
flags_of ns = words_from (λ n. member n ns) 0 flag_word_count

-- the flag of number n in a list of words: bit n mod 64 of word n div 64
abbrev pub flag_at : List ℕ → ℕ → ℕ
flag_at ws n = get_or ws (n / bits_per_word) 0 / 2 ^ (n % bits_per_word) % 2

-- the count is the number of set flags
unfoldable pub count_of : List ℕ → ℕ
count_of ns = count_from (λ n. member n ns) 0 flag_count

-- how many of the flags of numbers 0 to 1,023 are set, counted a bit at a time
unfoldable pub set_flags : List ℕ → ℕ
set_flags words = count_from (λ n. eqb (flag_at words n) 1) 0 flag_count

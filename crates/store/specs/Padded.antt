-- Words in use, and zeros past them: every unused place is free.
-- Assumes nothing.
use Rattle.std.specs.Prelude.{ℕ, ◌-◌, List, ◌++◌, length, replicate}

-- the words, and zeros up to n words
unfoldable pub padded : ℕ → List ℕ → List ℕ
padded n words = words ++ replicate (n - length words) 0

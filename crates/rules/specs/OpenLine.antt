-- "1,023 is an unplugged cable", the sixth request: a key whose reading is 1,023 is an open line's, and nobody's step. Bands may still end there.
-- Assumes nothing.
use Rattle.std.specs.Prelude.{ℕ, ◌%◌, Bool, eqb}
use Rattle.rules.specs.HallLine.{readings}

-- the reading of an open line
abbrev pub open_reading : ℕ
open_reading = 1023

-- the reading in a key: what its machine and its sensor leave over
abbrev pub reading_in : ℕ → ℕ
reading_in k = k % readings

-- the key is an open line's
unfoldable pub is_open : ℕ → Bool
is_open k = eqb (reading_in k) open_reading

-- A row of the table: one word put at one place of the memory, where memory is then no longer sound.
-- Assumes nothing.
use Rattle.std.specs.Prelude.{ℕ, zero, suc, ◌+◌, ◌*◌, Bool, not, List, [], ◌∷◌, eqb, get_or, set}
use Rattle.rules.specs.Connectives.{◌and◌}
use Rattle.store.specs.Sizes.{band_place_words, node_place_words}
use Rattle.store.specs.Memory.{Memory, lent}
use Rattle.store.specs.Places.{band_field, node_field, mark_word}
use Rattle.store.specs.Sound.{sound}
use Rattle.sharp.specs.Base.{base}

-- the word that is put there comes last
pub data Row : Type 0 where
  -- at a field of the place of a band number
  band : ℕ → ℕ → ℕ → Row
  -- at a field of a node place; place 0 is the header's
  node : ℕ → ℕ → ℕ → Row
  -- at a mark place, counted from 1
  mark : ℕ → ℕ → Row

-- the same word at each of n fields, or mark places, from the first on, one at a time
abbrev pub run : (ℕ → ℕ → Row) → ℕ → ℕ → ℕ → List Row
run at first zero word = []
run at first (suc n) word = at first word ∷ run at (suc first) n word

-- the memory with the row's word put there
abbrev pub changed : Row → Memory → Memory
changed (band b f word) m = lent (set m.bands (b * band_place_words + f) word) m.nodes m.marks
changed (node i f word) m = lent m.bands (set m.nodes (i * node_place_words + f) word) m.marks
changed (mark i word) m = lent m.bands m.nodes (set m.marks (mark_word i) word)

-- the word that stood there is another
abbrev pub differs : Row → Memory → Bool
differs (band b f word) m = not (eqb (band_field m.bands b f) word)
differs (node i f word) m = not (eqb (node_field m.nodes i f) word)
differs (mark i word) m = not (eqb (get_or m.marks (mark_word i) 0) word)

-- the definition calls the memory sound, and with this one word changed it says no
unfoldable pub row_right : Row → Bool
row_right r = sound base and differs r base and not (sound (changed r base))

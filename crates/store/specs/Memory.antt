-- The lent memory: three slices of words.
-- Assumes nothing.
use Rattle.std.specs.Prelude.{ℕ, Bool, List, length}
use Rattle.rules.specs.Connectives.{◌and◌}
use Rattle.rules.specs.Lists.{same_numbers}
use Rattle.rules.specs.Room.{Room}
use Rattle.store.specs.Sizes.{Lengths, lengths_of, room_for}

pub record Memory : Type 0 where
  pub bands : List ℕ
  pub nodes : List ℕ
  pub marks : List ℕ

-- the memory that is lent as these three slices
abbrev pub lent : List ℕ → List ℕ → List ℕ → Memory
lent bs ns ms = record { bands = bs; nodes = ns; marks = ms }

abbrev pub lengths_in : Memory → Lengths
lengths_in m = lengths_of (length m.bands) (length m.nodes) (length m.marks)

-- the room of a memory, by its lengths
unfoldable pub room_in : Memory → Room
room_in m = room_for (lengths_in m)

-- two memories are the same, word for word
unfoldable pub same_memory : Memory → Memory → Bool
same_memory m w =
    same_numbers m.bands w.bands and same_numbers m.nodes w.nodes and same_numbers m.marks w.marks

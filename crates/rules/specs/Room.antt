-- "Sound memory", the room: how many nodes and marks a memory can take.
-- Assumes nothing.
use Rattle.std.specs.Prelude.{ℕ, Bool, leb}
use Rattle.rules.specs.Connectives.{◌and◌}

pub record Room : Type 0 where
  pub nodes : ℕ
  pub marks : ℕ

abbrev pub room_of : ℕ → ℕ → Room
room_of n m = record { nodes = n; marks = m }

-- room for 1 to 2,048 nodes and 1 to 16,384 marks
abbrev pub most_nodes : ℕ
most_nodes = 2048

abbrev pub most_marks : ℕ
most_marks = 16384

unfoldable pub room_in_range : Room → Bool
room_in_range r = leb 1 r.nodes and leb r.nodes most_nodes and leb 1 r.marks and leb r.marks most_marks

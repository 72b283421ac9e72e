-- "What is built": every call that the box takes, with its arguments; and by which numbers of the table it can be refused.
-- Assumes nothing.
use Rattle.std.specs.Prelude.{ℕ, List, [], ◌∷◌}
use Rattle.rules.specs.HallLine.{Band}

pub data Call : Type 0 where
  emptying : Call
  inserting : (b : Band) (low_level high_level : ℕ) → Call
  removing : (number scope : ℕ) → Call
  checking : Call
  stabbing : (key : ℕ) → Call
  reading_band : (number : ℕ) → Call
  reading_edge : (key lane : ℕ) → Call
  reading_node : (key : ℕ) → Call
  reading_room : Call

-- the numbers of a call's lines, in their order; 13 stands twice on the edge readout: no node at the key, or it has no such lane
abbrev pub numbers_of : Call → List ℕ
numbers_of emptying = 1 ∷ []
numbers_of (inserting b low_level high_level) = 1 ∷ 2 ∷ 3 ∷ 4 ∷ 5 ∷ 6 ∷ 7 ∷ 8 ∷ 11 ∷ 12 ∷ []
numbers_of (removing number scope) = 1 ∷ 2 ∷ 3 ∷ 9 ∷ 10 ∷ 12 ∷ []
numbers_of checking = []
numbers_of (stabbing key) = 1 ∷ 4 ∷ []
numbers_of (reading_band number) = 1 ∷ 3 ∷ 9 ∷ []
numbers_of (reading_edge key lane) = 1 ∷ 4 ∷ 13 ∷ 13 ∷ []
numbers_of (reading_node key) = 1 ∷ 4 ∷ 13 ∷ []
numbers_of reading_room = 1 ∷ []

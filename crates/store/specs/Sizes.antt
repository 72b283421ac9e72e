-- "Sound memory", its sizes: which lengths of the three slices make which room.
-- Assumes nothing.
use Rattle.std.specs.Prelude.{ℕ, ◌+◌, ◌-◌, ◌*◌, ◌/◌, ◌%◌, Bool, eqb}
use Rattle.rules.specs.Connectives.{◌and◌}
use Rattle.rules.specs.Room.{Room, room_of, room_in_range}

-- a band place is 8 words, and each of the 1,024 numbers has one
abbrev pub band_place_words : ℕ
band_place_words = 8

abbrev pub band_places : ℕ
band_places = 1024

-- a node place is 20 words, and so is the header's, which stands before them; a mark place is one word
abbrev pub node_place_words : ℕ
node_place_words = 20

-- the lengths of the three slices, in words
pub record Lengths : Type 0 where
  pub bands : ℕ
  pub nodes : ℕ
  pub marks : ℕ

abbrev pub lengths_of : ℕ → ℕ → ℕ → Lengths
lengths_of b n m = record { bands = b; nodes = n; marks = m }

-- the lengths that make a room
unfoldable pub lengths_for : Room → Lengths
lengths_for r = lengths_of (band_places * band_place_words) (node_place_words * (r.nodes + 1)) r.marks

-- the room that lengths make
unfoldable pub room_for : Lengths → Room
room_for l = room_of (l.nodes / node_place_words - 1) l.marks

-- sizes are right when the band places are all there, the node places are whole and the room is in range
unfoldable pub sizes_right : Lengths → Bool
sizes_right l =
    eqb l.bands (band_places * band_place_words) and eqb (l.nodes % node_place_words) 0 and room_in_range (room_for l)

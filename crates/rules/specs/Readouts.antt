-- "What is built": the readouts of a band, of an edge, of a node and of the room used, as they are where the call is not refused.
-- Assumes nothing.
use Rattle.std.specs.Prelude.{ℕ, Bool, false, List, [], ltb, length}
use Rattle.std.proofs.Math.Option.{Option, none, some}
use Rattle.rules.specs.Lists.{keep, first_of}
use Rattle.rules.specs.HallLine.{Band}
use Rattle.rules.specs.NodesLanesEdges.{edge_of, lane_of, level_at}
use Rattle.rules.specs.Profile.{Profile, band_numbered}
use Rattle.rules.specs.Marks.{marked_on_edge, marked_on_node, marks_in_use}
use Rattle.rules.specs.Flags.{flags_of}

-- the band readout: scope, ends and closed ends
pub record BandRead : Type 0 where
  pub scope : ℕ
  pub low : ℕ
  pub high : ℕ
  pub low_closed : Bool
  pub high_closed : Bool

-- what is read of a band, and zeros where there is none
abbrev pub band_read_of : Option Band → BandRead
band_read_of none = record { scope = 0; low = 0; high = 0; low_closed = false; high_closed = false }
band_read_of (some b) =
    record { scope = b.scope; low = b.low; high = b.high; low_closed = b.low_closed; high_closed = b.high_closed }

unfoldable pub band_read : Profile → ℕ → BandRead
band_read p number = band_read_of (band_numbered number p.bands)

-- the key of the node that comes next after k in lane i, or none
unfoldable pub next_in : Profile → ℕ → ℕ → Option ℕ
next_in p k i = first_of (keep (ltb k) (lane_of i p.nodes))

-- the numbers marked on the link from k in lane i: a link to nothing carries no marks
abbrev pub marked_on_link : Profile → ℕ → ℕ → Option ℕ → List ℕ
marked_on_link p k i none = []
marked_on_link p k i (some y) = marked_on_edge p i (edge_of k y)

-- the edge readout, for a key and a lane: the next node's key or none, and the flags marked there
pub record EdgeRead : Type 0 where
  pub next : Option ℕ
  pub flags : List ℕ

unfoldable pub edge_read : Profile → ℕ → ℕ → EdgeRead
edge_read p k i = record { next = next_in p k i; flags = flags_of (marked_on_link p k i (next_in p k i)) }

-- the node readout: level and flags
pub record NodeRead : Type 0 where
  pub level : ℕ
  pub flags : List ℕ

unfoldable pub node_read : Profile → ℕ → NodeRead
node_read p k = record { level = level_at k p.nodes; flags = flags_of (marked_on_node p k) }

-- the room readout: nodes and marks in use
pub record RoomRead : Type 0 where
  pub nodes : ℕ
  pub marks : ℕ

unfoldable pub room_read : Profile → RoomRead
room_read p = record { nodes = length p.nodes; marks = marks_in_use p }

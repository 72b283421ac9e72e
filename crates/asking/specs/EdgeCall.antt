-- The edge readout on any memory: 1 (sizes), 4, 13 where no place is found for the key or its node has no such lane, else the key of the node that the
-- link leads to, and what is marked in the link's slot. No band word is read. (Places are found by halving: where keys ascend, each that is there.)
-- Assumes nothing.
use Rattle.std.specs.Prelude.{ℕ, suc, Bool, cond, List, ltb, eqb}
use Rattle.std.proofs.Math.Option.{Option, none, some}
use Rattle.rules.specs.Connectives.{◌and◌, says_yes}
use Rattle.rules.specs.NodesLanesEdges.{lanes}
use Rattle.rules.specs.Flags.{flags_of}
use Rattle.rules.specs.Readouts.{EdgeRead}
use Rattle.rules.specs.BoxSaysNo.{Answered, answered, refusal_by, edge_read_lines, no_edge_read}
use Rattle.store.specs.Sizes.{sizes_right}
use Rattle.store.specs.Memory.{Memory, lengths_in}
use Rattle.store.specs.Places.{node_field, key_field, level_field}
use Rattle.store.specs.SaidMarks.{said_marks}
use Rattle.search.specs.Descent.{next_of}
use Rattle.search.specs.PlaceOf.{place_of}

-- the node at place i has the lane
abbrev pub has_lane : List ℕ → ℕ → ℕ → Bool
has_lane nodes i lane = ltb lane lanes and ltb lane (node_field nodes i level_field)

-- a node stands at the key where a place is found for it
unfoldable pub edge_refusal_in : Memory → ℕ → ℕ → ℕ
edge_refusal_in m k lane =
    refusal_by
    (edge_read_lines
    (sizes_right (lengths_in m))
    k
    (says_yes (place_of m.nodes k))
    (has_lane m.nodes (place_of m.nodes k) lane))

-- the key of the node at a place; none at place 0, to which a link leads that leads nowhere
unfoldable pub key_at : List ℕ → ℕ → Option ℕ
key_at nodes i = cond (eqb i 0) none (some (node_field nodes i key_field))

-- what is read of the link out of place i in a lane
unfoldable pub edge_at : List ℕ → List ℕ → ℕ → ℕ → EdgeRead
edge_at nodes marks i lane =
    record { next = key_at nodes (next_of nodes i lane); flags = flags_of (said_marks nodes marks i (suc lane)) }

unfoldable pub edge_in : Memory → ℕ → ℕ → Answered EdgeRead
edge_in m k lane = answered (edge_refusal_in m k lane) no_edge_read (edge_at m.nodes m.marks (place_of m.nodes k) lane)

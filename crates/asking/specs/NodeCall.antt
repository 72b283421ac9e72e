-- The node readout on any memory: 1 (sizes), 4, 13 where no place is found for the key, else the level that stands at its place, and what is
-- marked in the node's own slot. No band word is read.
-- Assumes nothing.
use Rattle.std.specs.Prelude.{ℕ, List}
use Rattle.rules.specs.Connectives.{says_yes}
use Rattle.rules.specs.Flags.{flags_of}
use Rattle.rules.specs.Readouts.{NodeRead}
use Rattle.rules.specs.BoxSaysNo.{Answered, answered, refusal_by, node_read_lines, no_node_read}
use Rattle.store.specs.Sizes.{sizes_right}
use Rattle.store.specs.Memory.{Memory, lengths_in}
use Rattle.store.specs.Places.{node_field, level_field}
use Rattle.store.specs.SaidMarks.{said_marks}
use Rattle.search.specs.PlaceOf.{place_of}

-- a node stands at the key where a place is found for it
unfoldable pub node_refusal_in : Memory → ℕ → ℕ
node_refusal_in m k = refusal_by (node_read_lines (sizes_right (lengths_in m)) k (says_yes (place_of m.nodes k)))

-- what is read of the node at place i
unfoldable pub node_at : List ℕ → List ℕ → ℕ → NodeRead
node_at nodes marks i = record { level = node_field nodes i level_field; flags = flags_of (said_marks nodes marks i 0) }

unfoldable pub node_in : Memory → ℕ → Answered NodeRead
node_in m k = answered (node_refusal_in m k) no_node_read (node_at m.nodes m.marks (place_of m.nodes k))

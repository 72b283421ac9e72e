-- The room readout on any memory: 1 (sizes), else nodes and marks in use as the header says.
-- Assumes nothing.
use Rattle.std.specs.Prelude.{ℕ, List}
use Rattle.rules.specs.Readouts.{RoomRead}
use Rattle.rules.specs.BoxSaysNo.{Answered, answered, room_read_refusal, no_room_read}
use Rattle.store.specs.Sizes.{sizes_right}
use Rattle.store.specs.Memory.{Memory, lengths_in}
use Rattle.store.specs.Places.{node_field, header, marks_in_use_field, in_use}

-- what the header says
unfoldable pub said_use : List ℕ → RoomRead
said_use nodes = record { nodes = in_use nodes; marks = node_field nodes header marks_in_use_field }

unfoldable pub room_read_in : Memory → Answered RoomRead
room_read_in m = answered (room_read_refusal (sizes_right (lengths_in m))) no_room_read (said_use m.nodes)

-- What each answer of the calls that ask says: the number of the paper, and the values beside it; zeros throughout beside a refusal. The promise of each
-- call goes through these definitions.
-- Assumes nothing.
use Rattle.std.specs.Prelude.{Result, Ok, Err}
use Rattle.std.proofs.Math.Option.{none}
use Rattle.rules.specs.Search.{Stab as RuledStab}
use Rattle.rules.specs.Readouts.{BandRead as RuledBandRead, EdgeRead as RuledEdgeRead, NodeRead as RuledNodeRead, RoomRead as RuledRoomRead, band_read_of}
use Rattle.rules.specs.BoxSaysNo.{Answered, saying, no_stab, no_edge_read, no_node_read, no_room_read}
use Rattle.hall.specs.Says.{refusal_says, key_said, key_says}
use Rattle.hall.specs.declared.answers.Refusal.{Refusal}
use Rattle.hall.specs.declared.reads.StabRead.{StabRead}
use Rattle.hall.specs.declared.reads.BandRead.{BandRead}
use Rattle.hall.specs.declared.reads.EdgeRead.{EdgeRead}
use Rattle.hall.specs.declared.reads.NodeRead.{NodeRead}
use Rattle.hall.specs.declared.reads.RoomRead.{RoomRead}

-- 0 beside what is read, or a refusal's number beside zeros
abbrev pub read_says : {A B : Type 0} → (A → B) → B → Result A Refusal → Answered B
read_says said zeros (Ok a) = saying 0 (said a)
read_says said zeros (Err r) = saying (refusal_says r) zeros

-- what is read, as the rules have it

abbrev pub stab_said : StabRead → RuledStab
stab_said s = record { flags = s.flags; count = s.count; met = s.met; looks = s.looks }

abbrev pub band_said : BandRead → RuledBandRead
band_said b =
    record {
      scope = b.scope;
      low = b.low.0;
      high = b.high.0;
      low_closed = b.low_closed;
      high_closed = b.high_closed;
    }

abbrev pub edge_said : EdgeRead → RuledEdgeRead
edge_said e = record { next = key_said (key_says e.next); flags = e.flags }

abbrev pub node_said : NodeRead → RuledNodeRead
node_said n = record { level = n.level; flags = n.flags }

abbrev pub room_said : RoomRead → RuledRoomRead
room_said r = record { nodes = r.nodes; marks = r.marks }

-- what each call answers

abbrev pub stab_says : Result StabRead Refusal → Answered RuledStab
stab_says = read_says stab_said no_stab

abbrev pub band_read_says : Result BandRead Refusal → Answered RuledBandRead
band_read_says = read_says band_said (band_read_of none)

abbrev pub edge_read_says : Result EdgeRead Refusal → Answered RuledEdgeRead
edge_read_says = read_says edge_said no_edge_read

abbrev pub node_read_says : Result NodeRead Refusal → Answered RuledNodeRead
node_read_says = read_says node_said no_node_read

abbrev pub room_read_says : Result RoomRead Refusal → Answered RuledRoomRead
room_read_says = read_says room_said no_room_read

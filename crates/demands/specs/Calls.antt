-- What each call comes to on a memory, by the call's own definition: the number that it answers, 0 where it is not refused, and the memory that stands
-- after it; and the memory after a list of calls. The check says yes or no and is never refused. What stood before it, before stabs and before readouts
-- stands after them, as their promises say (proofs/AsPromised.antt).
-- Assumes nothing.
use Rattle.std.specs.Prelude.{ℕ, List, [], ◌∷◌}
use Rattle.rules.specs.BoxSaysNo.{Change, leaving}
use Rattle.rules.specs.Calls.{Call, emptying, inserting, removing, checking, stabbing, reading_band, reading_edge, reading_node, reading_room}
use Rattle.store.specs.Memory.{Memory}
use Rattle.emptying.specs.EmptyCall.{empty_in}
use Rattle.inserting.specs.InsertCall.{insert_in}
use Rattle.removing.specs.RemoveCall.{remove_in}
use Rattle.asking.specs.StabCall.{stab_in}
use Rattle.asking.specs.BandCall.{band_in}
use Rattle.asking.specs.EdgeCall.{edge_in}
use Rattle.asking.specs.NodeCall.{node_in}
use Rattle.asking.specs.RoomCall.{room_read_in}

abbrev pub call_in : Memory → Call → Change Memory
call_in m emptying = empty_in m
call_in m (inserting b low_level high_level) = insert_in m b low_level high_level
call_in m (removing number scope) = remove_in m number scope
call_in m checking = leaving 0 m
call_in m (stabbing key) = leaving (stab_in m key).refusal m
call_in m (reading_band number) = leaving (band_in m number).refusal m
call_in m (reading_edge key lane) = leaving (edge_in m key lane).refusal m
call_in m (reading_node key) = leaving (node_in m key).refusal m
call_in m reading_room = leaving (room_read_in m).refusal m

-- the number that a call answers
abbrev pub refusal_of : Memory → Call → ℕ
refusal_of m c = (call_in m c).refusal

-- the memory after it, accepted or refused
abbrev pub after_call : Memory → Call → Memory
after_call m c = (call_in m c).after

-- the memory after a list of calls, one after the other
abbrev pub after_calls : Memory → List Call → Memory
after_calls m [] = m
after_calls m (c ∷ cs) = after_calls (after_call m c) cs

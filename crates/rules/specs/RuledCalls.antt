-- Every call by the rules: the lines that can refuse it, the profile after it where none does, and so what it comes to; and the profile after calls, one
-- after the other, in a room. The rules know no memory: whether sizes are right and memory is sound is given as two Bools, and after a list of calls
-- both are taken as so.
-- Assumes nothing.
use Rattle.std.specs.Prelude.{ℕ, Bool, true, List, [], ◌∷◌, ltb}
use Rattle.rules.specs.NodesLanesEdges.{stands_at, level_at}
use Rattle.rules.specs.Profile.{Profile, is_live, empty_profile}
use Rattle.rules.specs.Changes.{inserted, removed}
use Rattle.rules.specs.Room.{Room}
use Rattle.rules.specs.BoxSaysNo.{TableLine, refusal_by, empty_lines, insert_lines, remove_lines, stab_lines, band_read_lines, edge_read_lines, node_read_lines, room_read_lines, Change, changed}
use Rattle.rules.specs.Calls.{Call, emptying, inserting, removing, checking, stabbing, reading_band, reading_edge, reading_node, reading_room}

-- what is known where a call is judged: whether sizes are right and memory is sound, its room and its profile; and, for readouts, whether a number is
-- live, whether a node stands at a key and whether it has a lane
pub record Known : Type 0 where
  pub sizes_right : Bool
  pub sound : Bool
  pub room : Room
  pub profile : Profile
  pub live : ℕ → Bool
  pub stands : ℕ → Bool
  pub has_lane : ℕ → ℕ → Bool

-- the lines that can refuse a call, in their order; the check says yes or no and is never refused
abbrev pub lines_by : Known → Call → List TableLine
lines_by k emptying = empty_lines k.sizes_right
lines_by k (inserting b low_level high_level) = insert_lines k.sizes_right k.sound k.room k.profile b low_level high_level
lines_by k (removing number scope) = remove_lines k.sizes_right k.sound k.room k.profile number scope
lines_by k checking = []
lines_by k (stabbing key) = stab_lines k.sizes_right key
lines_by k (reading_band number) = band_read_lines k.sizes_right number (k.live number)
lines_by k (reading_edge key lane) = edge_read_lines k.sizes_right key (k.stands key) (k.has_lane key lane)
lines_by k (reading_node key) = node_read_lines k.sizes_right key (k.stands key)
lines_by k reading_room = room_read_lines k.sizes_right

-- known of a profile
abbrev pub known_of : Bool → Bool → Room → Profile → Known
known_of sizes_right sound room p =
    record {
      sizes_right = sizes_right;
      sound = sound;
      room = room;
      profile = p;
      live = λ number. is_live number p.bands;
      stands = λ key. stands_at key p.nodes;
      has_lane = λ key lane. ltb lane (level_at key p.nodes);
    }

-- the profile after a call that nothing refuses: one that only reads leaves it as it was
abbrev pub after_accepted : Profile → Call → Profile
after_accepted p emptying = empty_profile
after_accepted p (inserting b low_level high_level) = inserted p b low_level high_level
after_accepted p (removing number scope) = removed p number
after_accepted p checking = p
after_accepted p (stabbing key) = p
after_accepted p (reading_band number) = p
after_accepted p (reading_edge key lane) = p
after_accepted p (reading_node key) = p
after_accepted p reading_room = p

-- the number that a call answers and the profile after it: a refused one leaves all as it was
abbrev pub call_outcome : Bool → Bool → Room → Profile → Call → Change Profile
call_outcome sizes_right sound room p c = changed (refusal_by (lines_by (known_of sizes_right sound room p) c)) p (after_accepted p c)

-- the profile after a call, accepted or refused
abbrev pub ruled_after_call : Room → Profile → Call → Profile
ruled_after_call room p c = (call_outcome true true room p c).after

-- the profile after a list of calls
abbrev pub ruled_after_calls : Room → Profile → List Call → Profile
ruled_after_calls room p [] = p
ruled_after_calls room p (c ∷ cs) = ruled_after_calls room (ruled_after_call room p c) cs

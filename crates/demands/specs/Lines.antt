-- When the box says no to a call: the lines of the table that it can be refused by, in their order, each with when it applies to that memory and those
-- arguments. (The lines themselves, and their numbers: `lines_by` and `numbers_of` in the rules.)
-- Assumes nothing.
use Rattle.std.specs.Prelude.{List}
use Rattle.rules.specs.Connectives.{says_yes}
use Rattle.rules.specs.BoxSaysNo.{TableLine}
use Rattle.rules.specs.Calls.{Call}
use Rattle.rules.specs.RuledCalls.{Known, lines_by}
use Rattle.store.specs.Sizes.{sizes_right}
use Rattle.store.specs.Memory.{Memory, lengths_in, room_in}
use Rattle.store.specs.Places.{band_field, live_field}
use Rattle.store.specs.SaidProfile.{said_profile}
use Rattle.store.specs.Sound.{sound}
use Rattle.search.specs.PlaceOf.{place_of}
use Rattle.asking.specs.EdgeCall.{has_lane}

-- what is known of a memory: insert and remove are judged on the profile that the words say, a readout asks the words themselves whether a number is
-- live, whether a node stands at a key and whether it has a lane
abbrev pub known_in : Memory → Known
known_in m =
    record {
      sizes_right = sizes_right (lengths_in m);
      sound = sound m;
      room = room_in m;
      profile = said_profile m;
      live = λ number. says_yes (band_field m.bands number live_field);
      stands = λ key. says_yes (place_of m.nodes key);
      has_lane = λ key lane. has_lane m.nodes (place_of m.nodes key) lane;
    }

-- the lines that a call can be refused by
abbrev pub lines_of : Memory → Call → List TableLine
lines_of m c = lines_by (known_in m) c

-- The room readout on sound memory, in plain words: nodes and marks in use.
-- Assumes nothing.
use mathlib.Core.Path.{◌≡◌}
use mathlib.Core.Bool.{true}
use lib.ListN.{length}
use Rattle.rules.specs.Marks.{marks_in_use}
use Rattle.rules.specs.Readouts.{room_read}
use Rattle.rules.specs.BoxSaysNo.{saying, room_read_refusal, room_read_answer}
use Rattle.store.specs.Memory.{Memory}
use Rattle.store.specs.SaidProfile.{said_profile}
use Rattle.store.specs.Sound.{sound}
use Rattle.asking.specs.RoomCall.{room_read_in}
use Rattle.asking.proofs.OnSound.{room_on_sound}

pub room_exact : (m : Memory) → sound m ≡ true
    → room_read_in m ≡ saying 0 (record { nodes = length (said_profile m).nodes; marks = marks_in_use (said_profile m) })
unfolding room_read_answer room_read_refusal room_read
room_exact m s = room_on_sound m s

-- The room readout on words that lay a profile is the rules' own.
-- Assumes nothing.
use mathlib.Core.Path.{◌≡◌}
use Rattle.rules.specs.Profile.{Profile}
use Rattle.rules.specs.Readouts.{room_read}
use Rattle.rules.specs.BoxSaysNo.{room_read_answer}
use Rattle.store.specs.Sizes.{sizes_right}
use Rattle.store.specs.Memory.{Memory, lengths_in}
use Rattle.store.proofs.Lays.{Lays}
use Rattle.asking.specs.RoomCall.{said_use, room_read_in}

pub room_on_laid : (p : Profile) (m : Memory) → Lays p m.nodes m.marks → room_read_in m ≡ room_read_answer (sizes_right (lengths_in m)) p
unfolding room_read_in said_use room_read_answer room_read
room_on_laid p m l = rw (l.in_use_lem, l.marks_in_use_lem)

-- What comes of a change that no line before 11 refuses: 11 and 12 by the profile after it alone; refused, it leaves all memory as it was, and
-- accepted, the one memory of the profile after it for the same room.
-- Assumes nothing.
use Rattle.std.specs.Prelude.{ℕ, List}
use Rattle.rules.specs.Profile.{Profile}
use Rattle.rules.specs.BoxSaysNo.{Change, fit_refusal}
use Rattle.store.specs.Memory.{Memory, room_in}
use Rattle.store.specs.ChangeIn.{change_in}
use Rattle.marking.specs.Buckets.{starts_from, counted, slots_of_marks}
use Rattle.marking.specs.Staircases.{staircases}

unfoldable pub committed : Memory → Profile → Change Memory
committed m after = change_in m (fit_refusal (room_in m) after) after

-- ---- as the code goes about it

-- the start of each slot, by counting from these cursors on
unfoldable pub starts_by : List ℕ → List ℕ → List ℕ → List ℕ
starts_by cursors bands nodes = starts_from 0 (counted cursors (slots_of_marks (staircases bands nodes)))

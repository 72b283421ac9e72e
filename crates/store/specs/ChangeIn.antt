-- What comes of a change, on any memory: from the number that refuses it, 0 where none does, and the profile after it. Refused, it leaves all
-- memory as it was; accepted, the one memory of the profile after it, for the same room. Every call that changes memory is such a change.
-- Assumes nothing.
use Rattle.std.specs.Prelude.{ℕ}
use Rattle.rules.specs.Profile.{Profile}
use Rattle.rules.specs.BoxSaysNo.{Change, changed}
use Rattle.store.specs.Memory.{Memory, room_in}
use Rattle.store.specs.LaidMemory.{laid_memory}

unfoldable pub change_in : Memory → ℕ → Profile → Change Memory
change_in m refusal after = changed refusal m (laid_memory (room_in m) after)

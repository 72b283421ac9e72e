-- "Sound memory": sizes right, the profile that the words say stands and fits its room, and the words are the one memory of that profile:
-- so nodes, levels, bands and marks are by the rules and every unused place is free.
-- Assumes nothing.
use Rattle.std.specs.Prelude.{Bool}
use Rattle.rules.specs.Connectives.{◌and◌}
use Rattle.rules.specs.SoundMemory.{sound_in}
use Rattle.store.specs.Sizes.{sizes_right}
use Rattle.store.specs.Memory.{Memory, lengths_in, room_in, same_memory}
use Rattle.store.specs.SaidProfile.{said_profile}
use Rattle.store.specs.LaidMemory.{laid_memory}

unfoldable pub sound : Memory → Bool
sound m =
    sizes_right (lengths_in m) and sound_in (room_in m) (said_profile m) and same_memory m (laid_memory (room_in m) (said_profile m))

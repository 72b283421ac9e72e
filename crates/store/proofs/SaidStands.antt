-- The profile that sound memory says stands, and fits the memory's room.
-- Assumes nothing.
use Prim.Native.Nat.{◌≤◌, ◌-◌, ◌/◌}
use mathlib.Core.Path.{◌≡◌}
use mathlib.Core.Bool.{true}
use native.Mathlib.Omega.{arith}
use lib.ListN.{length}
use Rattle.rules.specs.Room.{most_nodes}
use Rattle.rules.proofs.SoundMemory.{Standing, SoundIn, sound_in_means}
use Rattle.store.specs.Sizes.{node_place_words, room_for, sizes_right}
use Rattle.store.specs.Memory.{Memory, lengths_in, room_in}
use Rattle.store.specs.SaidProfile.{said_profile}
use Rattle.store.specs.Sound.{sound}
use Rattle.store.proofs.Sound.{sound_means}

module _ (m : Memory) (s : sound m ≡ true) where
  pub sizes_of_sound : sizes_right (lengths_in m) ≡ true
  sizes_of_sound = ((sound_means m).fact s).sizes

  -- it stands, and fits the room of the memory
  pub in_room : SoundIn (room_in m) (said_profile m)
  in_room = (sound_in_means (room_in m) (said_profile m)).fact ((sound_means m).fact s).in_room

  pub said_stands : Standing (said_profile m)
  said_stands = in_room.0

  -- there is a place for each node, and the largest room has as many
  pub node_places : length (said_profile m).nodes ≤ length m.nodes / node_place_words - 1
  unfolding room_in room_for
  node_places = in_room.1.nodes_fit_lem

  pub few_nodes : length (said_profile m).nodes ≤ most_nodes
  few_nodes = omega (arith, in_room.1.nodes_fit_lem, in_room.1.node_room.1)

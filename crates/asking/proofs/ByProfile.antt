-- Two sound memories, of whatever rooms, that say the same profile answer every stab and readout alike.
-- Assumes nothing.
use Prim.Native.Nat.{ℕ}
use mathlib.Core.Path.{◌≡◌}
use mathlib.Core.Bool.{true}
use Rattle.store.specs.Memory.{Memory}
use Rattle.store.specs.SaidProfile.{said_profile}
use Rattle.store.specs.Sound.{sound}
use Rattle.asking.specs.StabCall.{stab_in}
use Rattle.asking.specs.BandCall.{band_in}
use Rattle.asking.specs.EdgeCall.{edge_in}
use Rattle.asking.specs.NodeCall.{node_in}
use Rattle.asking.specs.RoomCall.{room_read_in}
use Rattle.asking.proofs.OnSound.{stab_on_sound, band_on_sound, edge_on_sound, node_on_sound, room_on_sound}

module _ (m w : Memory) (s : sound m ≡ true) (t : sound w ≡ true) (same : said_profile m ≡ said_profile w) where
  pub stab_by_profile : (k : ℕ) → stab_in m k ≡ stab_in w k
  stab_by_profile k = rw (stab_on_sound m s k, stab_on_sound w t k, same)

  pub band_by_profile : (number : ℕ) → band_in m number ≡ band_in w number
  band_by_profile number = rw (band_on_sound m s number, band_on_sound w t number, same)

  pub edge_by_profile : (k lane : ℕ) → edge_in m k lane ≡ edge_in w k lane
  edge_by_profile k lane = rw (edge_on_sound m s k lane, edge_on_sound w t k lane, same)

  pub node_by_profile : (k : ℕ) → node_in m k ≡ node_in w k
  node_by_profile k = rw (node_on_sound m s k, node_on_sound w t k, same)

  pub room_by_profile : room_read_in m ≡ room_read_in w
  room_by_profile = rw (room_on_sound m s, room_on_sound w t, same)

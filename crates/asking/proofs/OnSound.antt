-- Each stab and readout on sound memory is the rules' own on the profile that the words say: a function of the profile alone, whatever the rooms.
-- Assumes nothing.
use Prim.Native.Nat.{ℕ}
use mathlib.Core.Path.{◌≡◌, ◌∙◌, ap}
use mathlib.Core.Bool.{true}
use Rattle.rules.specs.BoxSaysNo.{stab_answer, band_read_answer, edge_read_answer, node_read_answer, room_read_answer}
use Rattle.store.specs.Memory.{Memory}
use Rattle.store.specs.SaidProfile.{said_profile}
use Rattle.store.specs.Sound.{sound}
use Rattle.store.proofs.Lays.{Lays}
use Rattle.store.proofs.Sound.{sound_means}
use Rattle.store.proofs.LaidSound.{sound_lays}
use Rattle.store.proofs.SaidStands.{sizes_of_sound, said_stands, node_places, few_nodes}
use Rattle.asking.specs.StabCall.{stab_in}
use Rattle.asking.specs.BandCall.{band_in}
use Rattle.asking.specs.EdgeCall.{edge_in}
use Rattle.asking.specs.NodeCall.{node_in}
use Rattle.asking.specs.RoomCall.{room_read_in}
use Rattle.asking.proofs.StabOnLaid.{stab_on_laid}
use Rattle.asking.proofs.BandOnAny.{band_on_any}
use Rattle.asking.proofs.EdgeOnLaid.{edge_on_laid}
use Rattle.asking.proofs.NodeOnLaid.{node_on_laid}
use Rattle.asking.proofs.RoomOnLaid.{room_on_laid}

module _ (m : Memory) (s : sound m ≡ true) where
  lays : Lays (said_profile m) m.nodes m.marks
  lays = sound_lays m ((sound_means m).fact s)

  pub stab_on_sound : (k : ℕ) → stab_in m k ≡ stab_answer true (said_profile m) k
  stab_on_sound k =
      stab_on_laid (said_profile m) m lays (said_stands m s) (few_nodes m s) k
      ∙ ap (λ r. stab_answer r (said_profile m) k) (sizes_of_sound m s)

  pub band_on_sound : (number : ℕ) → band_in m number ≡ band_read_answer true (said_profile m) number
  band_on_sound number = band_on_any m number ∙ ap (λ r. band_read_answer r (said_profile m) number) (sizes_of_sound m s)

  pub edge_on_sound : (k lane : ℕ) → edge_in m k lane ≡ edge_read_answer true (said_profile m) k lane
  edge_on_sound k lane =
      edge_on_laid (said_profile m) m lays (said_stands m s) (node_places m s) k lane ∙ ap (λ r. edge_read_answer r (said_profile m) k lane) (sizes_of_sound m s)

  pub node_on_sound : (k : ℕ) → node_in m k ≡ node_read_answer true (said_profile m) k
  node_on_sound k = node_on_laid (said_profile m) m lays (said_stands m s) (node_places m s) k ∙ ap (λ r. node_read_answer r (said_profile m) k) (sizes_of_sound m s)

  pub room_on_sound : room_read_in m ≡ room_read_answer true (said_profile m)
  room_on_sound = room_on_laid (said_profile m) m lays ∙ ap (λ r. room_read_answer r (said_profile m)) (sizes_of_sound m s)

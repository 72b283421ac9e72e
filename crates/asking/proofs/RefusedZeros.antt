-- A refused stab or readout answers zeros throughout beside its number, in numbers (Zeros of the rules has them).
-- Assumes nothing.
use Prim.Native.Nat.{ℕ}
use mathlib.Core.Path.{◌≡◌, ◌∙◌, ap}
use mathlib.Core.Option.{none, some}
use Rattle.rules.specs.Readouts.{band_read_of}
use Rattle.rules.specs.BoxSaysNo.{Answered, saying, stab_refusal, room_read_refusal, no_stab, no_edge_read, no_node_read, no_room_read}
use Rattle.rules.proofs.BoxSaysNo.{refused_zeros}
use Rattle.rules.proofs.Zeros.{StabOfZeros, BandOfZeros, EdgeOfZeros, NodeOfZeros, RoomOfZeros, ZerosIfRefused, no_stab_zeros, no_band_zeros, no_edge_zeros, no_node_zeros, no_room_zeros}
use Rattle.store.specs.Sizes.{sizes_right}
use Rattle.store.specs.Memory.{Memory, lengths_in}
use Rattle.store.specs.SaidProfile.{said_band}
use Rattle.search.specs.Descent.{search_of}
use Rattle.search.specs.PlaceOf.{place_of}
use Rattle.asking.specs.StabCall.{stab_found, stab_in}
use Rattle.asking.specs.BandCall.{band_refusal_in, band_in}
use Rattle.asking.specs.EdgeCall.{edge_refusal_in, edge_at, edge_in}
use Rattle.asking.specs.NodeCall.{node_refusal_in, node_at, node_in}
use Rattle.asking.specs.RoomCall.{said_use, room_read_in}

-- every stab and readout on a memory; `StabOfZeros` and its like have the numbers
pub record AnswersZeros (m : Memory) : Type 0 where
  -- sixteen words of 0, and count, marks met and looks 0
  pub stab : (k : ℕ) → ZerosIfRefused StabOfZeros (stab_in m k)
  -- scope and both ends 0, and both ends open
  pub band : (number : ℕ) → ZerosIfRefused BandOfZeros (band_in m number)
  -- no next key, and sixteen words of 0
  pub edge : (k lane : ℕ) → ZerosIfRefused EdgeOfZeros (edge_in m k lane)
  -- level 0, and sixteen words of 0
  pub node : (k : ℕ) → ZerosIfRefused NodeOfZeros (node_in m k)
  -- nodes and marks 0
  pub room : ZerosIfRefused RoomOfZeros (room_read_in m)

pub refused_answers_zeros : (m : Memory) → AnswersZeros m
unfolding stab_in band_in edge_in node_in room_read_in
refused_answers_zeros m =
    record {
      stab =
          λ k h. zeros (refused_zeros (stab_refusal (sizes_right (lengths_in m)) k) no_stab (stab_found (search_of m.nodes m.marks k)) h)
          ∙ no_stab_zeros;
      band =
          λ number h. zeros (refused_zeros (band_refusal_in m number) (band_read_of none) (band_read_of (some (said_band m.bands number))) h)
          ∙ no_band_zeros;
      edge =
          λ k lane h. zeros (refused_zeros (edge_refusal_in m k lane) no_edge_read (edge_at m.nodes m.marks (place_of m.nodes k) lane) h)
          ∙ no_edge_zeros;
      node =
          λ k h. zeros (refused_zeros (node_refusal_in m k) no_node_read (node_at m.nodes m.marks (place_of m.nodes k)) h) ∙ no_node_zeros;
      room = λ h. zeros (refused_zeros (room_read_refusal (sizes_right (lengths_in m))) no_room_read (said_use m.nodes) h) ∙ no_room_zeros;
    }
  where
    zeros : {A : Type 0} {o : Answered A} {n : ℕ} {z : A} → o ≡ saying n z → o.read ≡ z
    zeros e = ap (λ a. a.read) e

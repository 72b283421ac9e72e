-- Every call by its own definition is a call by the rules, with one case for each: a call that asks leaves memory as it was, and the rules leave the
-- profile; a call that changes is a change to the profile that the rules come to, owing what changes owe. Both answer what their lines give.
-- Assumes nothing.
use mathlib.Core.Path.{◌≡◌, refl, ap}
use mathlib.Core.Bool.{true}
use mathlib.Core.Logic.{◌⊎◌, inl, inr}
use Rattle.rules.specs.BoxSaysNo.{refusal_by, leaving, empty_refusal, insert_refusal, remove_refusal, stab_answer, stab_refusal, band_read_answer, band_read_refusal, edge_read_answer, edge_read_refusal, node_read_answer, node_read_refusal, room_read_answer, room_read_refusal}
use Rattle.rules.specs.Calls.{Call, emptying, inserting, removing, checking, stabbing, reading_band, reading_edge, reading_node, reading_room}
use Rattle.rules.specs.RuledCalls.{lines_by, known_of, after_accepted, call_outcome}
use Rattle.store.specs.Sizes.{sizes_right}
use Rattle.store.specs.Memory.{Memory, lengths_in, room_in}
use Rattle.store.specs.SaidProfile.{said_profile}
use Rattle.store.specs.Sound.{sound}
use Rattle.store.specs.ChangeIn.{change_in}
use Rattle.store.proofs.SaidStands.{sizes_of_sound}
use Rattle.store.proofs.ChangeIn.{Fitting}
use Rattle.emptying.specs.EmptyCall.{empty_in}
use Rattle.inserting.specs.InsertCall.{insert_refusal_in, insert_in}
use Rattle.removing.specs.RemoveCall.{remove_refusal_in, remove_in}
use Rattle.asking.specs.StabCall.{stab_in}
use Rattle.asking.specs.BandCall.{band_in, band_refusal_in}
use Rattle.asking.specs.EdgeCall.{edge_in, edge_refusal_in}
use Rattle.asking.specs.NodeCall.{node_in, node_refusal_in}
use Rattle.asking.specs.RoomCall.{room_read_in}
use Rattle.asking.proofs.OnSound.{stab_on_sound, band_on_sound, edge_on_sound, node_on_sound, room_on_sound}
use Rattle.emptying.proofs.Accepted.{empty_fitting}
use Rattle.inserting.proofs.Accepted.{insert_fitting}
use Rattle.removing.proofs.Accepted.{remove_fitting}
use Rattle.demands.specs.Calls.{call_in}
use Rattle.demands.specs.Lines.{lines_of}

-- on sound memory the rules are given that sizes are right and that it is sound
pub sound_known : (m : Memory) → sound m ≡ true → (c : Call)
    → call_outcome (sizes_right (lengths_in m)) (sound m) (room_in m) (said_profile m) c ≡ call_outcome true true (room_in m) (said_profile m) c
sound_known m s c = λ i. call_outcome (sizes_of_sound m s i) (s i) (room_in m) (said_profile m) c

-- the call asks; on sound memory what it is judged by, which it reads off the words, gives what it gives by the profile that the words say
pub record Asks (m : Memory) (c : Call) : Type 0 where
  pub comes_to : call_in m c ≡ leaving (refusal_by (lines_of m c)) m
  pub leaves_profile : after_accepted (said_profile m) c ≡ said_profile m
  pub judged_as_ruled : sound m ≡ true → refusal_by (lines_of m c) ≡ (call_outcome true true (room_in m) (said_profile m) c).refusal

-- the call changes; what it is judged by is what the rules know of the profile that the words say
pub record Changes (m : Memory) (c : Call) : Type 0 where
  pub comes_to : call_in m c ≡ change_in m (refusal_by (lines_of m c)) (after_accepted (said_profile m) c)
  pub fitting : Fitting m (refusal_by (lines_of m c)) (after_accepted (said_profile m) c)
  pub judged_as_ruled : lines_of m c ≡ lines_by (known_of (sizes_right (lengths_in m)) (sound m) (room_in m) (said_profile m)) c

pub asks_or_changes : (m : Memory) (c : Call) → Asks m c ⊎ Changes m c
unfolding empty_in empty_refusal insert_in insert_refusal_in insert_refusal remove_in remove_refusal_in remove_refusal stab_in stab_answer stab_refusal band_in band_refusal_in band_read_answer band_read_refusal edge_in edge_refusal_in edge_read_answer edge_read_refusal node_in node_refusal_in node_read_answer node_read_refusal room_read_in room_read_answer room_read_refusal
asks_or_changes m emptying = inr (record { comes_to = refl; fitting = empty_fitting m; judged_as_ruled = refl })
asks_or_changes m (inserting b lo hi) = inr (record { comes_to = refl; fitting = insert_fitting m b lo hi; judged_as_ruled = refl })
asks_or_changes m (removing number scope) = inr (record { comes_to = refl; fitting = remove_fitting m number scope; judged_as_ruled = refl })
asks_or_changes m checking = inl (record { comes_to = refl; leaves_profile = refl; judged_as_ruled = λ s. refl })
asks_or_changes m (stabbing k) = inl (record { comes_to = refl; leaves_profile = refl; judged_as_ruled = λ s. ap (λ a. a.refusal) (stab_on_sound m s k) })
asks_or_changes m (reading_band number) =
    inl (record { comes_to = refl; leaves_profile = refl; judged_as_ruled = λ s. ap (λ a. a.refusal) (band_on_sound m s number) })
asks_or_changes m (reading_edge k lane) =
    inl (record { comes_to = refl; leaves_profile = refl; judged_as_ruled = λ s. ap (λ a. a.refusal) (edge_on_sound m s k lane) })
asks_or_changes m (reading_node k) =
    inl (record { comes_to = refl; leaves_profile = refl; judged_as_ruled = λ s. ap (λ a. a.refusal) (node_on_sound m s k) })
asks_or_changes m reading_room = inl (record { comes_to = refl; leaves_profile = refl; judged_as_ruled = λ s. ap (λ a. a.refusal) (room_on_sound m s) })

-- The steps from an empty profile on: memory made empty soundly says it; on memory that soundly says a profile inserts and removes answer what the rules
-- give on it, in the room that was lent; an accepted insert leaves what the rules come to; and every stab and readout is the rules' own.
-- Assumes nothing.
use Prim.Native.Nat.{ℕ}
use mathlib.Core.Path.{◌≡◌, ap, ◌∙◌}
use mathlib.Core.Bool.{true}
use Rattle.rules.specs.HallLine.{Band}
use Rattle.rules.specs.Profile.{Profile, empty_profile}
use Rattle.rules.specs.Changes.{inserted}
use Rattle.rules.specs.Room.{room_in_range}
use Rattle.rules.specs.BoxSaysNo.{insert_refusal, remove_refusal, stab_answer, band_read_answer, edge_read_answer, node_read_answer, room_read_answer}
use Rattle.store.specs.Sizes.{sizes_right, room_for}
use Rattle.store.specs.Memory.{Memory, lengths_in, room_in}
use Rattle.store.specs.ChangeIn.{change_in}
use Rattle.store.proofs.RightSizes.{right_lengths}
use Rattle.store.proofs.SaidStands.{sizes_of_sound}
use Rattle.store.proofs.ChangeIn.{LeavesSound}
use Rattle.asking.specs.StabCall.{stab_in}
use Rattle.asking.specs.BandCall.{band_in}
use Rattle.asking.specs.EdgeCall.{edge_in}
use Rattle.asking.specs.NodeCall.{node_in}
use Rattle.asking.specs.RoomCall.{room_read_in}
use Rattle.asking.proofs.OnSound.{stab_on_sound, band_on_sound, edge_on_sound, node_on_sound, room_on_sound}
use Rattle.emptying.specs.EmptyCall.{empty_in}
use Rattle.emptying.proofs.EmptyExact.{empty_makes}
use Rattle.inserting.specs.InsertCall.{insert_refusal_in, insert_in}
use Rattle.inserting.proofs.Accepted.{insert_leaves}
use Rattle.removing.specs.RemoveCall.{remove_refusal_in, remove_in}

module _ (m : Memory) (right : sizes_right (lengths_in m) ≡ true) where
  -- the room of memory of right sizes is in range
  pub room_right : room_in_range (room_in m) ≡ true
  unfolding room_in
  room_right = (right_lengths (lengths_in m) right).0

  -- made empty, it soundly says the empty profile
  pub emptied : LeavesSound m empty_profile (empty_in m).after
  emptied = let made = empty_makes m right in record { is_sound = made.is_sound; says = made.is_empty; same_lengths = made.same_lengths }

-- memory w that soundly says the profile p, in the room of the memory m that was lent
module _ {m w : Memory} {p : Profile} (is : LeavesSound m p w) where
  -- an insert answers the number that the rules give on the profile in that room ..
  pub insert_answers : (b : Band) (lo hi : ℕ) → (insert_in w b lo hi).refusal ≡ insert_refusal true true (room_in m) p b lo hi
  unfolding insert_in change_in insert_refusal_in room_in
  insert_answers b lo hi i =
      insert_refusal (sizes_of_sound w is.is_sound i) (is.is_sound i) (room_for (is.same_lengths i)) (is.says i) b lo hi

  -- .. and so does a remove
  pub remove_answers : (number scope : ℕ) → (remove_in w number scope).refusal ≡ remove_refusal true true (room_in m) p number scope
  unfolding remove_in change_in remove_refusal_in room_in
  remove_answers number scope i =
      remove_refusal (sizes_of_sound w is.is_sound i) (is.is_sound i) (room_for (is.same_lengths i)) (is.says i) number scope

  -- after an accepted insert memory soundly says the profile with the band
  pub with_band_lem : (b : Band) (lo hi : ℕ) → (insert_in w b lo hi).refusal ≡ 0 → LeavesSound m (inserted p b lo hi) (insert_in w b lo hi).after
  with_band_lem b lo hi z =
      let left = insert_leaves w b lo hi z in
      record {
        is_sound = left.is_sound;
        says = left.says ∙ ap (λ q. inserted q b lo hi) is.says;
        same_lengths = left.same_lengths ∙ is.same_lengths;
      }

  -- every stab and readout of it is the rules' own on the profile
  pub stabbed : (k : ℕ) → stab_in w k ≡ stab_answer true p k
  stabbed k = stab_on_sound w is.is_sound k ∙ ap (λ q. stab_answer true q k) is.says

  pub band_read_lem : (number : ℕ) → band_in w number ≡ band_read_answer true p number
  band_read_lem number = band_on_sound w is.is_sound number ∙ ap (λ q. band_read_answer true q number) is.says

  pub edge_read_lem : (k lane : ℕ) → edge_in w k lane ≡ edge_read_answer true p k lane
  edge_read_lem k lane = edge_on_sound w is.is_sound k lane ∙ ap (λ q. edge_read_answer true q k lane) is.says

  pub node_read_lem : (k : ℕ) → node_in w k ≡ node_read_answer true p k
  node_read_lem k = node_on_sound w is.is_sound k ∙ ap (λ q. node_read_answer true q k) is.says

  pub room_read_lem : room_read_in w ≡ room_read_answer true p
  room_read_lem = room_on_sound w is.is_sound ∙ ap (room_read_answer true) is.says

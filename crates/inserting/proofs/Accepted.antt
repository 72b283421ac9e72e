-- An insert is a change that owes what every change does: it is accepted only where memory was sound and the profile with the band may soundly stand
-- in the room.
-- Assumes nothing.
use Prim.Native.Nat.{ℕ}
use mathlib.Core.Path.{◌≡◌}
use mathlib.Core.Bool.{true}
use Rattle.rules.specs.HallLine.{Band}
use Rattle.rules.specs.Changes.{inserted}
use Rattle.rules.specs.BoxSaysNo.{insert_refusal}
use Rattle.rules.specs.Calls.{inserting}
use Rattle.rules.proofs.BoxSaysNo.{InsertAccepted, insert_accepted}
use Rattle.store.specs.Sizes.{sizes_right}
use Rattle.store.specs.Memory.{Memory, lengths_in, room_in}
use Rattle.store.specs.SaidProfile.{said_profile}
use Rattle.store.specs.Sound.{sound}
use Rattle.store.proofs.Sound.{unsound_fails}
use Rattle.store.proofs.SoundFirst.{sound_call_fits}
use Rattle.store.specs.ChangeIn.{change_in}
use Rattle.store.proofs.ChangeIn.{Fitting, LeavesSound, change_leaves}
use Rattle.inserting.specs.InsertCall.{insert_refusal_in, insert_in}

module _ (m : Memory) (b : Band) (lo hi : ℕ) where
  -- where it is accepted nothing refuses it
  pub insert_unrefused : insert_refusal_in m b lo hi ≡ 0 → InsertAccepted (sound m ≡ true) (room_in m) (said_profile m) b lo hi
  unfolding insert_refusal_in
  insert_unrefused = (insert_accepted (sizes_right (lengths_in m)) (sound m) (unsound_fails m) (room_in m) (said_profile m) b lo hi).0

  pub insert_was_sound : insert_refusal_in m b lo hi ≡ 0 → sound m ≡ true
  insert_was_sound z = (insert_unrefused z).judged.memory_right

  pub insert_fitting : Fitting m (insert_refusal_in m b lo hi) (inserted (said_profile m) b lo hi)
  unfolding insert_refusal_in insert_refusal
  insert_fitting = sound_call_fits m (inserting b lo hi) insert_was_sound

  pub insert_leaves : (insert_in m b lo hi).refusal ≡ 0 → LeavesSound m (inserted (said_profile m) b lo hi) (insert_in m b lo hi).after
  unfolding insert_in change_in
  insert_leaves z = change_leaves m (insert_refusal_in m b lo hi) (inserted (said_profile m) b lo hi) insert_fitting z

-- A remove is a change that owes what every change does: it is accepted only where memory was sound and the profile without the band may soundly stand
-- in the room.
-- Assumes nothing.
use Prim.Native.Nat.{ℕ}
use mathlib.Core.Path.{◌≡◌}
use mathlib.Core.Bool.{true}
use Rattle.rules.specs.Changes.{removed}
use Rattle.rules.specs.BoxSaysNo.{remove_refusal}
use Rattle.rules.specs.Calls.{removing}
use Rattle.rules.proofs.BoxSaysNo.{RemoveAccepted, remove_accepted}
use Rattle.store.specs.Sizes.{sizes_right}
use Rattle.store.specs.Memory.{Memory, lengths_in, room_in}
use Rattle.store.specs.SaidProfile.{said_profile}
use Rattle.store.specs.Sound.{sound}
use Rattle.store.proofs.Sound.{unsound_fails}
use Rattle.store.proofs.SoundFirst.{sound_call_fits}
use Rattle.store.proofs.ChangeIn.{Fitting}
use Rattle.removing.specs.RemoveCall.{remove_refusal_in}

module _ (m : Memory) (number scope : ℕ) where
  pub remove_unrefused : remove_refusal_in m number scope ≡ 0
      → RemoveAccepted (sound m ≡ true) (room_in m) (said_profile m) number scope
  unfolding remove_refusal_in
  remove_unrefused = (remove_accepted (sizes_right (lengths_in m)) (sound m) (unsound_fails m) (room_in m) (said_profile m) number scope).0

  pub remove_was_sound : remove_refusal_in m number scope ≡ 0 → sound m ≡ true
  remove_was_sound z = (remove_unrefused z).judged.memory_right

  pub remove_fitting : Fitting m (remove_refusal_in m number scope) (removed (said_profile m) number)
  unfolding remove_refusal_in remove_refusal
  remove_fitting = sound_call_fits m (removing number scope) remove_was_sound

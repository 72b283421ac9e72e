-- When a remove says no, on any memory, number by number in plain words (the record `RemoveGives` of the rules). 1 is given exactly where memory is
-- not sound; the profile without the band alone decides 12.
-- Assumes nothing.
use Prim.Native.Nat.{ℕ}
use mathlib.Core.Path.{◌≡◌}
use mathlib.Core.Bool.{true, false}
use Rattle.rules.proofs.RemoveRefused.{RemoveGives, remove_gives}
use Rattle.store.specs.Sizes.{sizes_right}
use Rattle.store.specs.Memory.{Memory, lengths_in, room_in}
use Rattle.store.specs.SaidProfile.{said_profile}
use Rattle.store.specs.Sound.{sound}
use Rattle.store.specs.ChangeIn.{change_in}
use Rattle.store.proofs.Sound.{unsound_means, unsound_fails}
use Rattle.removing.specs.RemoveCall.{remove_refusal_in, remove_in}

pub remove_refused_exactly : (m : Memory) (number scope : ℕ)
    → RemoveGives (sound m ≡ false) (sound m ≡ true) (room_in m) (said_profile m) number scope (remove_in m number scope).refusal
unfolding remove_in change_in remove_refusal_in
remove_refused_exactly m number scope =
    remove_gives (sizes_right (lengths_in m)) (sound m) (unsound_means m) (unsound_fails m) (room_in m) (said_profile m) number scope

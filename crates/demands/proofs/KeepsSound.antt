-- "Every call, accepted or refused, leaves a sound profile sound": and every call leaves every memory, whatever it holds, as long as it was.
-- Assumes nothing.
use mathlib.Core.Path.{◌≡◌, refl}
use mathlib.Core.Bool.{true}
use Rattle.rules.specs.Calls.{Call}
use Rattle.store.specs.Memory.{Memory, lengths_in}
use Rattle.store.specs.Sound.{sound}
use Rattle.store.proofs.ChangeIn.{change_keeps_sound, change_keeps_lengths}
use Rattle.demands.specs.Calls.{after_call}
use Rattle.demands.proofs.EveryCall.{every_call}

module _ (m : Memory) where
  pub keeps_sound : sound m ≡ true → (c : Call) → sound (after_call m c) ≡ true
  keeps_sound s = every_call m (λ n w. sound w ≡ true) (λ n. s) (λ n p owed. change_keeps_sound m n p owed s)

  pub keeps_lengths : (c : Call) → lengths_in (after_call m c) ≡ lengths_in m
  keeps_lengths = every_call m (λ n w. lengths_in w ≡ lengths_in m) (λ n. refl) (change_keeps_lengths m)

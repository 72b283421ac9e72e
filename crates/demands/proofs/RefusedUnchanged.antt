-- A refused change leaves all profile memory the same, all three slices to the last word. (That a refused stab or readout answers zeros throughout
-- beside its number: RefusedZeros, where those calls are.)
-- Assumes nothing.
use mathlib.Core.Path.{◌≡◌, refl}
use Rattle.rules.specs.Calls.{Call}
use Rattle.store.specs.Memory.{Memory}
use Rattle.store.proofs.ChangeIn.{change_refused}
use Rattle.demands.specs.Calls.{refusal_of, after_call}
use Rattle.demands.proofs.EveryCall.{every_call}

-- of every call that changes memory; the check, stabs and readouts leave it as it was in any case
pub refused_unchanged : (m : Memory) (c : Call) → (refusal_of m c ≡ 0 → ⊥) → after_call m c ≡ m
refused_unchanged m = every_call m (λ n w. (n ≡ 0 → ⊥) → w ≡ m) (λ n h. refl) (λ n p owed. change_refused m n p)

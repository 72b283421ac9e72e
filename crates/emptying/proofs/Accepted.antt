-- Making an empty profile is a change that owes what every change does: it is accepted only where sizes are right, and the empty profile may soundly
-- stand in the room.
-- Assumes nothing.
use native.Mathlib.Omega.{arith}
use Rattle.rules.specs.Profile.{empty_profile}
use Rattle.rules.specs.Marks.{marks_in_use}
use Rattle.rules.specs.BoxSaysNo.{empty_refusal}
use Rattle.rules.proofs.BoxSaysNo.{empty_accepted}
use Rattle.rules.proofs.Theory.StandingKept.{empty_stands}
use Rattle.store.specs.Sizes.{sizes_right}
use Rattle.store.specs.Memory.{Memory, lengths_in}
use Rattle.store.proofs.ChangeIn.{Fitting, fitting_by_parts}

pub empty_fitting : (m : Memory) → Fitting m (empty_refusal (sizes_right (lengths_in m))) empty_profile
unfolding marks_in_use
empty_fitting m = fitting_by_parts m _ _ (empty_accepted (sizes_right (lengths_in m))).0 (λ z. empty_stands) (λ z. (omega arith, omega arith))

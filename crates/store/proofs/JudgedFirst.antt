-- A change that some lines judge before it is made ready, and others after: a number that the first give is answered, and memory is left as it was;
-- where they give none, and the others give what 11 and 12 do, the profile after it alone decides.
-- Assumes nothing.
use Prim.Native.Nat.{ℕ}
use mathlib.Core.Path.{◌≡◌, sym, ◌∙◌, ap}
use mathlib.Core.List.{List, ◌++◌}
use borrow.Author.Tests.{ne_eqb}
use Rattle.rules.specs.Profile.{Profile}
use Rattle.rules.specs.BoxSaysNo.{TableLine, refusal_by, leaving, fit_refusal}
use Rattle.rules.proofs.FirstLine.{Numbered, refusal_enough, refusal_then}
use Rattle.store.specs.Memory.{Memory, room_in}
use Rattle.store.specs.ChangeIn.{change_in}

module _ (m : Memory) (first others : List TableLine) (after : Profile) where
  -- the others play no part where the first give a number ..
  pub judged_refused : (n : ℕ) → n ≡ refusal_by first → (n ≡ 0 → ⊥) → leaving n m ≡ change_in m (refusal_by (first ++ others)) after
  unfolding change_in
  judged_refused n judged given = rw (refusal_enough first others (λ z. given (judged ∙ z)), ← judged, ne_eqb n 0 given)

  -- .. and the first none where they give none
  pub judged_then_fit : Numbered first → refusal_by others ≡ fit_refusal (room_in m) after → refusal_by first ≡ 0
      → change_in m (fit_refusal (room_in m) after) after ≡ change_in m (refusal_by (first ++ others)) after
  judged_then_fit numbered fit none = ap (λ r. change_in m r after) (sym (refusal_then first others numbered none ∙ fit))

-- What a `?` passes on is answered as it was given; and of a place asked for by `ok_or`, that none is found is the refusal that it names.
-- Assumes nothing.
use Prim.Native.Nat.{ℕ, ◌<◌}
use mathlib.Core.Path.{◌≡◌, refl, sym, ap, ◌∙◌}
use native.Mathlib.Omega.{arith}
use Rattle.std.specs.Prelude.{Option, None, Some, Result, Ok, Err, ok_or, IfSome, IsErrAnd}
use Rattle.hall.specs.declared.answers.Refusal.{Refusal}
use Rattle.search.specs.PlaceOf.{place_said}

-- a refusal that is passed on is the answer
pub passed_on : {A : Type 0} (answer : Result A Refusal) (r : Refusal) → IsErrAnd answer (λ s. s ≡ r) → answer ≡ Err r
passed_on (Ok a) r passed = absurd passed
passed_on (Err s) r passed = ap Err passed

-- where `ok_or` gives a refusal it is the one named, and no place was found
pub no_place : (found : Option ℕ) (named r : Refusal) → Err r ≡ ok_or found named → (r ≡ named) × (place_said found ≡ 0)
no_place None named r e = (cc, refl)
no_place (Some i) named r e = cc

-- where it gives a place it is the one that was found, and not the header's
pub this_place : (found : Option ℕ) (place due : ℕ) → found ≡ Some place → place_said found ≡ due → IfSome found (λ i. 0 < i)
    → (place ≡ due) × (place ≡ 0 → ⊥)
this_place None place due e said node = cc
this_place (Some i) place due e said node =
    let same : i ≡ place = cc in
    (sym same ∙ said, λ z. omega (arith, node, same))

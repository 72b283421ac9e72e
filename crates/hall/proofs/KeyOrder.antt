-- The order of keys and readings, which the compiler derives, is that of their numbers.
-- Assumes nothing.
use Prim.Native.Nat.{ℕ, ◌≤◌, ◌<◌}
use mathlib.Core.Path.{◌≡◌, refl, sym, ◌∙◌}
use mathlib.Core.Bool.{Bool, true, false, cond}
use lib.Dec.{ltb, eqb}
use borrow.Author.Tests.{ltb-true}
use Rattle.std.specs.Ordering.{is_lt, nat_cmp}
use Rattle.std.proofs.Common.{Ordering}
use Rattle.std.proofs.lemmas.Map.Keys.{ge_from_not_lt}

-- whichever of the three it is, it is Less exactly where the first test says so
told_less : (below same : Bool) → is_lt (cond below Ordering.Less (cond same Ordering.Equal Ordering.Greater)) ≡ below
told_less true same = refl
told_less false true = refl
told_less false false = refl

-- `<` of two keys is `<` of their numbers
pub less : (a b : ℕ) → is_lt (nat_cmp a b) ≡ ltb a b
less a b = told_less (ltb a b) (eqb a b)

-- .. in plain arithmetic, of a test that was passed and of one that was not
pub below : {t : Bool} (a b : ℕ) → t ≡ is_lt (nat_cmp a b) → t ≡ true → a < b
below a b test passed = ltb-true a b (sym (less a b) ∙ sym test ∙ passed)

pub not_below : {t : Bool} (a b : ℕ) → t ≡ is_lt (nat_cmp a b) → t ≡ false → b ≤ a
not_below a b test failed = ge_from_not_lt a b (sym test ∙ failed)

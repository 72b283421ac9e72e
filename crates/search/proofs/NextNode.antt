-- The rule's tests of the next node, where one stands there and where none does.
-- Assumes nothing.
use Prim.Native.Nat.{ℕ}
use native.Mathlib.Omega.{arith}
use mathlib.Core.Path.{◌≡◌}
use mathlib.Core.Bool.{false}
use mathlib.Core.List.{List}
use borrow.Author.Tests.{ne_eqb}
use lib.Dec.{eqb, ltb}
use Rattle.rules.specs.Connectives.{◌and◌}
use Rattle.search.specs.declared.next.Next.{Next}
use Rattle.search.specs.Descent.{is_below, is_at, is_above}
use Rattle.search.specs.Next.{IsNext}

module _ {nodes : List ℕ} {i : ℕ} {next : Next} (n : IsNext nodes i next) (k : ℕ) where
  pub tests_below : is_below nodes k i ≡ ltb next.key.0 k
  unfolding is_below ◌and◌
  tests_below = rw (ne_eqb i 0 (λ z. omega (arith, n.leads)), n.key)

  pub tests_at : is_at nodes k i ≡ eqb next.key.0 k
  unfolding is_at ◌and◌
  tests_at = rw (ne_eqb i 0 (λ z. omega (arith, n.leads)), n.key)

  pub tests_above : is_above nodes k i ≡ ltb k next.key.0
  unfolding is_above ◌and◌
  tests_above = rw (ne_eqb i 0 (λ z. omega (arith, n.leads)), n.key)

module _ (nodes : List ℕ) (k : ℕ) {i : ℕ} (none : i ≡ 0) where
  pub none_below : is_below nodes k i ≡ false
  unfolding is_below ◌and◌
  none_below = rw none

  pub none_at : is_at nodes k i ≡ false
  unfolding is_at ◌and◌
  none_at = rw none

  pub none_above : is_above nodes k i ≡ false
  unfolding is_above ◌and◌
  none_above = rw none

-- `store::Memory::sizes_right` meets its contract: its tests are those of the sizes, joined otherwise.
-- Assumes nothing.
use Prim.Native.Nat.{ℕ, ◌/◌, ◌%◌}
use mathlib.Core.Path.{◌≡◌, refl, ◌∙◌}
use native.Mathlib.Omega.{arith}
use lib.Dec.{eqb, leb}
use lib.ListN.{length}
use Rattle.rules.specs.Connectives.{◌and◌}
use Rattle.rules.proofs.Connectives.{both}
use Rattle.rules.proofs.Means.{and_means, eq_means, le_means, same_means}
use Rattle.store.specs.Sizes.{lengths_of, sizes_right}
use Rattle.store.proofs.RightSizes.{sizes_in_numbers}
use Rattle.store.proofs.memory.Memory.sizes_right.Goals as goal

tests_join : (b n m : ℕ)
    → ((eqb b 8192 and eqb (n % 20) 0) and (leb 2 (n / 20) and leb (n / 20) 2049)) and (leb 1 m and leb m 16384) ≡ sizes_right (lengths_of b n m)
tests_join b n m =
    same_means
    (and_means
    (and_means (and_means (eq_means b 8192) (eq_means (n % 20) 0)) (and_means (le_means 2 (n / 20)) (le_means (n / 20) 2049)))
    (and_means (le_means 1 m) (le_means m 16384)))
    (sizes_in_numbers b n m)
    (λ h. (h.0.0.0, omega arith, omega arith, h.0.0.1, h.1.0, h.1.1))
    (λ h. (((h.0, h.3), (omega arith, omega arith)), (h.4, h.5)))

pub returns : goal.returns
returns c =
    both (both (both refl refl) (both refl refl)) (both refl refl)
    ∙ tests_join (length c.args.self.bands.now) (length c.args.self.nodes.now) (length c.args.self.marks.now)

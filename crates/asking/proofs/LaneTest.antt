-- The code's test of the lane, at the level that was read, is the rules' at the level that is said, and a lane that passes it is one of the eight.
-- Assumes nothing.
use Prim.Native.Nat.{ℕ, ◌<◌}
use mathlib.Core.Path.{◌≡◌, refl, sym, ap, ◌∙◌}
use mathlib.Core.Bool.{true, ◌&&◌}
use native.Mathlib.Omega.{arith}
use lib.Dec.{ltb}
use borrow.Author.Tests.{ltb-true}
use Rattle.rules.specs.Connectives.{◌and◌}
use Rattle.rules.specs.NodesLanesEdges.{lanes}
use Rattle.rules.proofs.Connectives.{both}
use Rattle.rules.proofs.Means.{and_both}

-- the code's test of the lane is the rules'
pub lane_test : (lane level said : ℕ) → level ≡ said → ltb lane lanes && ltb lane level ≡ ltb lane lanes and ltb lane said
lane_test lane level said e = both refl (ap (ltb lane) e)

-- a lane that passes the test is one of the eight
pub lane_below : (lane level : ℕ) → ltb lane lanes && ltb lane level ≡ true → lane < lanes
lane_below lane level passed = omega (arith, ltb-true lane _ (and_both _ _ (sym (both refl refl) ∙ passed)).0)

-- The test over the wheel's table finds no wrong place, and what the test over a table says of each entry: where no place is wrong it is the rule's.
-- Assumes nothing.
use Prim.Native.Nat.{ℕ, zero, suc, ◌+◌, ◌<◌}
use native.Mathlib.Omega.{arith}
use mathlib.Core.Path.{◌≡◌, refl, ap, ◌∙◌}
use mathlib.Core.Bool.{Bool, true, false, not}
use mathlib.Core.List.{List, [], ◌∷◌}
use lib.Count.{count_trailing_zeros}
use lib.Dec.{eqb}
use lib.ListN.{length, get_or}
use borrow.Author.Tests.{eqb-true}
use Rattle.rules.specs.Lists.{add_if}
use Rattle.rules.specs.Wheel.{wheel_places, wheel_level}
use Rattle.wheel.specs.TableTest.{wrong_from, TableRight}
use Rattle.wheel.specs.declared.levels.TheConstants.{LEVELS}

-- computed, over all its places
pub table_right : TableRight LEVELS
unfolding wheel_level count_trailing_zeros
table_right = record { whole = refl; none_wrong = refl }

-- from any place on
entries_by_rule : (place : ℕ) (ls : List ℕ) → wrong_from place ls ≡ [] → (i : ℕ) → i < length ls → get_or ls i 0 ≡ wheel_level (i + place)
entries_by_rule place [] none i h = absurd (omega arith)
entries_by_rule place (l ∷ ls) none i h = go (eqb l (wheel_level place)) refl (entries_by_rule (suc place) ls) none i h
  where
    go : (t : Bool) → eqb l (wheel_level place) ≡ t
        → (wrong_from (suc place) ls ≡ [] → (j : ℕ) → j < length ls → get_or ls j 0 ≡ wheel_level (j + suc place))
        → add_if (not t) place (wrong_from (suc place) ls) ≡ [] → (j : ℕ) → j < length (l ∷ ls) → get_or (l ∷ ls) j 0 ≡ wheel_level (j + place)
    go true e rest right zero below = eqb-true l (wheel_level place) e ∙ ap wheel_level (omega arith)
    go true e rest right (suc j) below = rest right j (omega arith) ∙ ap wheel_level (omega arith)
    go false e rest wrong j below = absurd (let some = ap length wrong in omega (arith, some))

-- of the whole table: the entry at index i is that of place i + 1
pub entry_by_rule : {table : List ℕ} → TableRight table → (i : ℕ) → i < wheel_places → get_or table i 0 ≡ wheel_level (i + 1)
entry_by_rule {table} right i h = entries_by_rule 1 table right.none_wrong i (let size = right.whole in omega arith)

-- A test over a whole table of levels: it computes to the places at which the table has another level than the rule.
-- Assumes nothing.
use Rattle.std.specs.Prelude.{ℕ, suc, ◌≡◌, not, List, [], ◌∷◌, eqb, length}
use Rattle.rules.specs.Lists.{add_if}
use Rattle.rules.specs.Wheel.{wheel_places, wheel_level}

-- the wrong places of a table whose first entry is that of a place
abbrev pub wrong_from : ℕ → List ℕ → List ℕ
wrong_from place [] = []
wrong_from place (l ∷ ls) = add_if (not (eqb l (wheel_level place))) place (wrong_from (suc place) ls)

-- the table has an entry for each place of the wheel, and none is wrong
pub record TableRight (table : List ℕ) : Type 0 where
  pub whole : length table ≡ wheel_places
  pub none_wrong : wrong_from 1 table ≡ []

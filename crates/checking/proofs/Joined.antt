-- Tests joined, as the code joins them: `and` and `or` of the rules by the first test.
-- Assumes nothing.
use mathlib.Core.Path.{◌≡◌, refl}
use mathlib.Core.Bool.{Bool, true, false, cond}
use Rattle.rules.specs.Connectives.{◌and◌, ◌or◌}

pub and_first : (a b : Bool) → a and b ≡ cond a b false
unfolding ◌and◌
and_first true b = refl
and_first false b = refl

pub or_first : (a b : Bool) → a or b ≡ cond a true b
unfolding ◌or◌
or_first true b = refl
or_first false b = refl

pub ruleset joined = (and_first, or_first)

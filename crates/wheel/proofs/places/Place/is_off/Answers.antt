-- `wheel::Place::is_off` meets its contract: its tests are those of the rule, joined alike.
-- Assumes nothing.
use native.Mathlib.Omega.{arith}
use Rattle.std.proofs.lemmas.Bool.Decides.{nat_tests}
use Rattle.rules.specs.Connectives.{◌or◌}
use Rattle.wheel.proofs.places.Place.is_off.Goals as goal

pub returns : goal.returns
unfolding ◌or◌
returns c =
    let made = c.new.ensures in
    rw c.contains.ensures.value (rw (made.start, made.end, made.exhausted) (grind (arith, nat_tests)))

-- `hall::Band::holds` meets its contract: its tests are those of the rules, joined alike.
-- Assumes nothing.
use mathlib.Core.Path.{refl, ◌∙◌}
use Rattle.rules.specs.HallLine.{past_low, before_high, holds}
use Rattle.rules.proofs.Connectives.{both, either}
use Rattle.hall.proofs.KeyOrder.{less}
use Rattle.hall.proofs.bands.Band.holds.Goals as goal

pub returns : goal.returns
unfolding holds past_low before_high
returns c =
    both
    (either (c.lt.ensures ∙ less _ _) (both c.eq.ensures refl))
    (either (c.lt-2.ensures ∙ less _ _) (both c.eq-2.ensures refl))

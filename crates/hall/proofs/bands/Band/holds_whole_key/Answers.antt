-- `hall::Band::holds_whole_key` meets its contract: it asks `holds` at the key that the rules ask it at.
-- Assumes nothing.
use mathlib.Core.Path.{◌∙◌, ap}
use Rattle.rules.specs.HallLine.{holds, holds_whole_key}
use Rattle.hall.proofs.bands.Band.holds_whole_key.Goals as goal

pub returns : goal.returns
unfolding holds_whole_key
returns c = c.holds.ensures ∙ ap (holds _) c.first_past.ensures

-- `hall::Band::within_scope` meets its contract: its tests are those of the rules, joined alike.
-- Assumes nothing.
use mathlib.Core.Path.{refl}
use Rattle.rules.specs.HallLine.{is_machine, within_scope}
use Rattle.rules.proofs.Connectives.{both, either}
use Rattle.hall.proofs.bands.Band.within_scope.Goals as goal

pub returns : goal.returns
unfolding within_scope is_machine
returns c = either refl (both c.belongs_to.ensures c.belongs_to-2.ensures)

-- `hall::entries::is_level` meets its contract.
-- Assumes nothing.
use mathlib.Core.Path.{refl}
use Rattle.rules.specs.NodesLanesEdges.{is_level}
use Rattle.rules.proofs.Connectives.{both}
use Rattle.hall.proofs.entries.is_level.Goals as goal

pub returns : goal.returns
unfolding is_level
returns c = both refl refl

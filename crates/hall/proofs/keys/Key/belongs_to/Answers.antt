-- `hall::Key::belongs_to` meets its contract.
-- Assumes nothing.
use Rattle.rules.proofs.HallLine.{own_by_division}
use Rattle.hall.proofs.keys.Key.belongs_to.Goals as goal

pub returns : goal.returns
returns c = own_by_division _ _

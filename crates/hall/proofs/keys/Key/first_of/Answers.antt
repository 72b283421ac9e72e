-- `hall::Key::first_of` meets its contract.
-- Assumes nothing.
use borrow.Author.Tests.{lt-ltb, le-ltb}
use Rattle.rules.specs.HallLine.{first_key}
use Rattle.hall.specs.MadeKeys.{first_made}
use Rattle.hall.proofs.keys.Key.first_of.Goals as goal

pub returns-then-machine-lt-MACHINES : goal.returns-then-machine-lt-MACHINES
unfolding first_made first_key
returns-then-machine-lt-MACHINES c = rw (lt-ltb _ _ c.if-machine-lt-MACHINES.true)

pub returns-else-machine-lt-MACHINES : goal.returns-else-machine-lt-MACHINES
unfolding first_made
returns-else-machine-lt-MACHINES c = rw (le-ltb _ _ c.if-machine-lt-MACHINES.false)

-- `hall::Band::first_past` meets its contract. What it requires keeps the key after the low end in a `u32`.
-- Assumes nothing.
use Rattle.rules.specs.HallLine.{first_past}
use Rattle.hall.proofs.bands.Band.first_past.Goals as goal

pub returns-then-self : goal.returns-then-self
unfolding first_past
returns-then-self c = rw c.if-self.true

pub returns-else-self : goal.returns-else-self
unfolding first_past
returns-else-self c = rw c.if-self.false

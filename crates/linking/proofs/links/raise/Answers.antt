-- `linking::links::raise` meets its contract.
-- Assumes nothing.
use Rattle.linking.proofs.PlacesAhead.{raised_filled}
use Rattle.linking.proofs.links.raise.Goals as goal

pub returns : goal.returns
returns c = raised_filled _ _ _ c.min-lanes.ensures c.told-ahead (c.fill.ensures.after (λ y e. e))

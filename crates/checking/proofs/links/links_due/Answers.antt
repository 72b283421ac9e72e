-- `checking::links::links_due` meets its contract.
-- Assumes nothing.
use Rattle.std.proofs.Common.{rules, refl}
use Rattle.rules.specs.NodesLanesEdges.{lanes}
use Rattle.checking.specs.Links.{link_by_ahead, links_due}
use Rattle.checking.proofs.AllOf.{all_below}
use Rattle.checking.proofs.links.links_due.Goals as goal

pub returns : goal.returns
unfolding links_due
returns c = let args = c.args in all_below (link_by_ahead args.nodes.now args.place args.level args.ahead.now) (λ x r f k. search rules) 0 lanes _ c.all.ensures.runs refl refl

-- `checking::node_places::nodes_right` meets its contract.
-- Assumes nothing.
use Rattle.std.proofs.Common.{rules, arith}
use Rattle.store.specs.Places.{in_use}
use Rattle.checking.specs.NodePlaces.{node_right, nodes_right}
use Rattle.checking.proofs.AllOf.{all_up_to}
use Rattle.checking.proofs.node_places.nodes_right.Goals as goal

pub returns : goal.returns
unfolding nodes_right
returns c =
    let nodes = c.args.nodes.now in
    all_up_to (node_right nodes) (λ x r f k. search rules) 1 (in_use nodes) _ c.all.ensures.runs c.new.ensures.start (omega arith) c.new.ensures.exhausted

-- The nodes whose places are noted: the nodes that are kept, as the code goes about it.
-- Assumes nothing.
use Rattle.std.specs.Prelude.{ℕ, zero, suc, List, []}
use Rattle.rules.specs.Lists.{add_if}
use Rattle.rules.specs.NodesLanesEdges.{Node}
use Rattle.store.specs.Places.{in_use}
use Rattle.store.specs.SaidProfile.{said_node}
use Rattle.linking.specs.EndPlaces.{is_noted}

-- the nodes of the m places from i on that are noted
abbrev pub noted_nodes_from : List ℕ → List ℕ → ℕ → ℕ → List Node
noted_nodes_from nodes found i zero = []
noted_nodes_from nodes found i (suc m) = add_if (is_noted found i) (said_node nodes i) (noted_nodes_from nodes found (suc i) m)

-- those of all places in use
unfoldable pub noted_nodes : List ℕ → List ℕ → List Node
noted_nodes nodes found = noted_nodes_from nodes found 1 (in_use nodes)

-- The test of the links in all eight lanes: from the header and from each node to the next node that takes part in the lane.
-- Assumes nothing.
use Rattle.std.specs.Prelude.{ℕ, suc, Bool, List, eqb, get_or}
use Rattle.rules.specs.Lists.{all_from}
use Rattle.rules.specs.NodesLanesEdges.{lanes}
use Rattle.store.specs.Places.{node_field, link_field, in_use}
use Rattle.linking.specs.LinksDue.{link_due, link_due_at}

-- the link of place i in a lane is the one due
unfoldable pub link_right : List ℕ → ℕ → ℕ → Bool
link_right nodes i lane = eqb (node_field nodes i (link_field lane)) (link_due_at nodes i lane)

-- the links of place i in all lanes
unfoldable pub place_links_right : List ℕ → ℕ → Bool
place_links_right nodes i = all_from (link_right nodes i) 0 lanes

-- the links of the header and of all nodes
unfoldable pub links_right : List ℕ → Bool
links_right nodes = all_from (place_links_right nodes) 0 (suc (in_use nodes))

-- ---- as the code goes about it

-- the link of place i in a lane is the one due by the lane's first place ahead
abbrev pub link_by_ahead : List ℕ → ℕ → ℕ → List ℕ → ℕ → Bool
link_by_ahead nodes i level ahead lane = eqb (node_field nodes i (link_field lane)) (link_due level lane (get_or ahead lane 0))

-- the links of place i, which has them in `level` lanes, are those due by the first places ahead
unfoldable pub links_due : List ℕ → ℕ → ℕ → List ℕ → Bool
links_due nodes i level ahead = all_from (link_by_ahead nodes i level ahead) 0 lanes

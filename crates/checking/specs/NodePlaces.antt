-- The test of the node places, but for links, fences and the count of marks: no more nodes in use than there is room for, the header's other words,
-- keys ascending with levels 1 to 8, and zeros past the last node.
-- Assumes nothing.
use Rattle.std.specs.Prelude.{ℕ, ◌+◌, ◌-◌, ◌*◌, ◌/◌, Bool, List, leb, ltb, eqb, length}
use Rattle.rules.specs.Connectives.{◌and◌, ◌or◌}
use Rattle.rules.specs.Lists.{all_from}
use Rattle.rules.specs.NodesLanesEdges.{lanes, is_level}
use Rattle.store.specs.Sizes.{node_place_words}
use Rattle.store.specs.Places.{node_field, key_field, level_field, header, lane_count_field, marks_in_use_field, in_use}
use Rattle.checking.specs.Zeros.{zeros_between}

-- the nodes in use have their places, and the header its own
unfoldable pub nodes_fit : List ℕ → Bool
nodes_fit nodes = ltb (in_use nodes) (length nodes / node_place_words)

-- the header counts 8 lanes, and has zeros after the marks in use
unfoldable pub header_right : List ℕ → Bool
header_right nodes = eqb (node_field nodes header lane_count_field) lanes and zeros_between (marks_in_use_field + 1) node_place_words nodes

-- the node of place i has a level of 1 to 8, and its key is above that of the node before it, if there is one
unfoldable pub node_right : List ℕ → ℕ → Bool
node_right nodes i =
    is_level (node_field nodes i level_field) and (leb i 1 or ltb (node_field nodes (i - 1) key_field) (node_field nodes i key_field))

-- all nodes in use are right
unfoldable pub nodes_right : List ℕ → Bool
nodes_right nodes = all_from (node_right nodes) 1 (in_use nodes)

-- every place past the last in use is free
unfoldable pub rest_free : List ℕ → Bool
rest_free nodes = zeros_between ((in_use nodes + 1) * node_place_words) (length nodes) nodes

-- all of these
unfoldable pub node_places_right : List ℕ → Bool
node_places_right nodes = nodes_fit nodes and header_right nodes and nodes_right nodes and rest_free nodes

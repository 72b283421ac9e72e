-- The link that is due at a place in a lane: from the header and from each node to the next node that takes part in the lane.
-- Assumes nothing.
use Rattle.std.specs.Prelude.{ℕ, suc, ◌-◌, cond, List, [], ◌∷◌, ltb, eqb}
use Rattle.rules.specs.NodesLanesEdges.{lanes}
use Rattle.store.specs.Places.{node_field, level_field, in_use}
use Rattle.store.specs.SaidProfile.{said_nodes_from}
use Rattle.store.specs.LaidNodes.{next_place}

-- the first place from i on, among those in use, whose node takes part in the lane; 0 for none
unfoldable pub next_from : List ℕ → ℕ → ℕ → ℕ
next_from nodes lane i = next_place lane i (said_nodes_from nodes i (suc (in_use nodes) - i))

-- in how many lanes place i has links: the header in all, a node in as many as its level says
unfoldable pub linked_lanes : List ℕ → ℕ → ℕ
linked_lanes nodes i = cond (eqb i 0) lanes (node_field nodes i level_field)

-- the link due in a lane at a place with links in so many lanes: to the next place of the lane; in a lane that it has not 0
abbrev pub link_due : ℕ → ℕ → ℕ → ℕ
link_due level lane next = cond (ltb lane level) next 0

-- the link due at place i in a lane
unfoldable pub link_due_at : List ℕ → ℕ → ℕ → ℕ
link_due_at nodes i lane = link_due (linked_lanes nodes i) lane (next_from nodes lane (suc i))

-- ---- as the code goes about it

-- the first places ahead, lane by lane from lane i on, once a node of that level stands at the place
abbrev pub raised_from : ℕ → ℕ → ℕ → List ℕ → List ℕ
raised_from place level i [] = []
raised_from place level i (first ∷ others) = cond (ltb i level) place first ∷ raised_from place level (suc i) others

-- those of all lanes
abbrev pub raised : ℕ → ℕ → List ℕ → List ℕ
raised place level ahead = raised_from place level 0 ahead

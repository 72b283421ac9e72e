-- "The search", over node and mark words, on any memory: from the header in the highest lane down, what it takes and how often it looks.
-- A link of 0 leads nowhere; a word past the end reads as 0. A search that would look a 2,057th time stops; on a sound profile none would.
-- Assumes nothing.
use Rattle.std.specs.Prelude.{ℕ, zero, suc, ◌+◌, Bool, not, cond, List, [], ◌++◌, ltb, eqb}
use Rattle.rules.specs.Connectives.{◌and◌}
use Rattle.rules.specs.Lists.{only_if}
use Rattle.rules.specs.NodesLanesEdges.{lanes}
use Rattle.rules.specs.Room.{most_nodes}
use Rattle.store.specs.Places.{node_field, key_field, link_field, header}
use Rattle.store.specs.SaidMarks.{said_marks}

-- what a search comes to: the numbers it takes, in its order; how often it looks at a next node; the place it ends at
pub record Descent : Type 0 where
  pub taken : List ℕ
  pub looks : ℕ
  pub place : ℕ

abbrev pub descent_of : List ℕ → ℕ → ℕ → Descent
descent_of ns l i = record { taken = ns; looks = l; place = i }

-- one more look before the rest, and what is taken at it
abbrev pub looked : List ℕ → Descent → Descent
looked ns d = descent_of (ns ++ d.taken) (suc d.looks) d.place

-- the most looks: 8, one for each lane, and one for each of 2,048 nodes
abbrev pub most_looks : ℕ
most_looks = lanes + most_nodes

-- the node that comes next after place i in a lane; 0 for none
unfoldable pub next_of : List ℕ → ℕ → ℕ → ℕ
next_of nodes i lane = node_field nodes i (link_field lane)

-- a node stands at place i, and its key is below k
unfoldable pub is_below : List ℕ → ℕ → ℕ → Bool
is_below nodes k i = not (eqb i 0) and ltb (node_field nodes i key_field) k

-- a node stands at place i, and its key is k
unfoldable pub is_at : List ℕ → ℕ → ℕ → Bool
is_at nodes k i = not (eqb i 0) and eqb (node_field nodes i key_field) k

-- a node stands at place i, and its key is above k
unfoldable pub is_above : List ℕ → ℕ → ℕ → Bool
is_above nodes k i = not (eqb i 0) and ltb k (node_field nodes i key_field)

-- on dropping a lane at place i: the edge's marks, only if the next node is above k
unfoldable pub taken_on_drop : List ℕ → List ℕ → ℕ → ℕ → ℕ → List ℕ
taken_on_drop nodes marks k i lane = only_if (is_above nodes k (next_of nodes i lane)) (said_marks nodes marks i (suc lane))

-- after lane 0, at place i: the node marks of the next node, if it stands at k
unfoldable pub taken_at_end : List ℕ → List ℕ → ℕ → ℕ → List ℕ
taken_at_end nodes marks k i = only_if (is_at nodes k (next_of nodes i 0)) (said_marks nodes marks (next_of nodes i 0) 0)

-- the search from place i on, in the lowest m lanes and with so many looks left: step on while the next node is below k, else drop a lane;
-- with lanes to do and no look left it stops and takes no more
abbrev pub descend : List ℕ → List ℕ → ℕ → ℕ → ℕ → ℕ → Descent
descend nodes marks k zero left i = descent_of (taken_at_end nodes marks k i) 0 i
descend nodes marks k (suc lane) zero i = descent_of [] 0 i
descend nodes marks k (suc lane) (suc left) i =
    let onward : Descent = looked [] (descend nodes marks k (suc lane) left (next_of nodes i lane)) in
    let down : Descent = looked (taken_on_drop nodes marks k i lane) (descend nodes marks k lane left i) in
    cond (is_below nodes k (next_of nodes i lane)) onward down

-- the search for k
unfoldable pub search_of : List ℕ → List ℕ → ℕ → Descent
search_of nodes marks k = descend nodes marks k lanes most_looks header

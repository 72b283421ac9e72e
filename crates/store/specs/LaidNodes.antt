-- The node words of a profile: the header, then a record for each node in key order, then zeros.
-- Assumes nothing.
use Rattle.std.specs.Prelude.{ℕ, zero, suc, ◌+◌, cond, List, [], ◌∷◌, ◌++◌, length, replicate}
use Rattle.rules.specs.NodesLanesEdges.{Node, lanes, takes_part}
use Rattle.rules.specs.Profile.{Profile}
use Rattle.rules.specs.Marks.{marks_in_use}
use Rattle.rules.specs.Staircase.{slots_per_node}
use Rattle.store.specs.Padded.{padded}
use Rattle.store.specs.LaidMarks.{slot_marks, node_marks}

-- the place of the first node of lane i among those from place j on; 0 for none
abbrev pub next_place : ℕ → ℕ → List Node → ℕ
next_place i j [] = 0
next_place i j (n ∷ ns) = cond (takes_part i n) j (next_place i (suc j) ns)

-- the link in lane i of the node at place j, with `rest` after it: 0 in a lane that it takes no part in
abbrev pub link_of : ℕ → Node → List Node → ℕ → ℕ
link_of j n rest i = cond (takes_part i n) (next_place i (suc j) rest) 0

-- its links in the m lanes from i on
abbrev pub links_from : ℕ → Node → List Node → ℕ → ℕ → List ℕ
links_from j n rest i zero = []
links_from j n rest i (suc m) = link_of j n rest i ∷ links_from j n rest (suc i) m

-- the header's links in the m lanes from i on: it stands before all nodes in all lanes
abbrev pub first_links_from : List Node → ℕ → ℕ → List ℕ
first_links_from ns i zero = []
first_links_from ns i (suc m) = next_place i 1 ns ∷ first_links_from ns (suc i) m

-- the fences from slot s on, for m slots and the end: each is how many marks stand before its slot, the last how many up to the end
abbrev pub fences_from : Profile → Node → List Node → ℕ → ℕ → ℕ → List ℕ
fences_from p n rest at s zero = at ∷ []
fences_from p n rest at s (suc m) = at ∷ fences_from p n rest (at + length (slot_marks p n rest s)) (suc s) m

-- the header: nodes in use, the number of lanes, the first node's place in each lane, marks in use, and zeros where a record has fences
unfoldable pub laid_header : Profile → List ℕ
laid_header p = length p.nodes ∷ lanes ∷ first_links_from p.nodes 0 lanes ++ marks_in_use p ∷ replicate slots_per_node 0

-- the record of node n at place j, with `rest` after it and `at` marks before its own
unfoldable pub laid_node : Profile → ℕ → ℕ → Node → List Node → List ℕ
laid_node p j at n rest = n.key ∷ n.level ∷ links_from j n rest 0 lanes ++ fences_from p n rest at 0 slots_per_node

-- the records of the nodes from place j on, with `at` marks before theirs
abbrev pub laid_nodes_from : Profile → ℕ → ℕ → List Node → List ℕ
laid_nodes_from p j at [] = []
laid_nodes_from p j at (n ∷ rest) =
    laid_node p j at n rest ++ laid_nodes_from p (suc j) (at + length (node_marks p n rest)) rest

-- header and records, in n words
unfoldable pub laid_nodes : ℕ → Profile → List ℕ
laid_nodes n p = padded n (laid_header p ++ laid_nodes_from p 1 0 p.nodes)

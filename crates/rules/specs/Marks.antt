-- "Marks": which bands the rule marks on an edge of a lane and on a node, and marks in use. A box stores what is marked;
-- these are the marks that it must store, and its stab and readouts are never to work them out from the list of bands.
-- Assumes nothing.
use Rattle.std.specs.Prelude.{ℕ, ◌+◌, Bool, not, List, [], ◌∷◌, leb, ltb}
use Rattle.rules.specs.Connectives.{◌and◌}
use Rattle.rules.specs.Lists.{any, count_if, sum_of, sum_lanes, add_if}
use Rattle.rules.specs.HallLine.{Band, holds}
use Rattle.rules.specs.NodesLanesEdges.{Node, Edge, edges_in, lanes, in_some_lane, in_some_lane_above}
use Rattle.rules.specs.Profile.{Profile}

-- an edge from X to Y lies inside a band when low <= X and Y <= high; open or closed plays no part
unfoldable pub inside : Edge → Band → Bool
inside e b = leb b.low e.from and leb e.to b.high

-- the first edge contains the second
unfoldable pub contains : Edge → Edge → Bool
contains f e = leb f.from e.from and leb e.to f.to

-- some edge of lane j both contains e and lies inside the band
unfoldable pub covered_in_lane : List Node → Band → Edge → ℕ → Bool
covered_in_lane ns b e j = any (λ f. contains f e and inside f b) (edges_in j ns)

-- edge mark, of an edge of lane i: it lies inside the band, and no edge of a lane above i both contains it and lies inside the band
unfoldable pub edge_marked : List Node → Band → ℕ → Edge → Bool
edge_marked ns b i e = inside e b and not (in_some_lane_above i (covered_in_lane ns b e))

-- the edge passes strictly over the key
unfoldable pub passes_over : Edge → ℕ → Bool
passes_over e k = ltb e.from k and ltb k e.to

-- some edge of lane j passes strictly over the key and lies inside the band
unfoldable pub passed_over_in_lane : List Node → Band → ℕ → ℕ → Bool
passed_over_in_lane ns b k j = any (λ e. passes_over e k and inside e b) (edges_in j ns)

-- node mark, of a node at k: the band holds the node's key, and no edge that passes strictly over the node lies inside the band
unfoldable pub node_marked : List Node → Band → ℕ → Bool
node_marked ns b k = holds b k and not (in_some_lane (passed_over_in_lane ns b k))

-- how many edges of lane i bear the band's mark
unfoldable pub edge_marks_in : List Node → Band → ℕ → ℕ
edge_marks_in ns b i = count_if (edge_marked ns b i) (edges_in i ns)

-- all marks of one band: those on edges of all lanes and those on nodes
unfoldable pub marks_of : List Node → Band → ℕ
marks_of ns b = sum_lanes (edge_marks_in ns b) 0 lanes + count_if (λ n. node_marked ns b n.key) ns

-- marks in use are all edge and node marks
unfoldable pub marks_in_use : Profile → ℕ
marks_in_use p = sum_of (marks_of p.nodes) p.bands

-- the numbers of the bands that pass, in the order of the bands
abbrev pub numbers_where : (Band → Bool) → List Band → List ℕ
numbers_where f [] = []
numbers_where f (b ∷ bs) = add_if (f b) b.number (numbers_where f bs)

-- the numbers marked on an edge of lane i
unfoldable pub marked_on_edge : Profile → ℕ → Edge → List ℕ
marked_on_edge p i e = numbers_where (λ b. edge_marked p.nodes b i e) p.bands

-- the numbers marked on the node at the key
unfoldable pub marked_on_node : Profile → ℕ → List ℕ
marked_on_node p k = numbers_where (λ b. node_marked p.nodes b k) p.bands

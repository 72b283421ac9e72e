-- "Nodes, lanes, edges": where nodes stand, the lanes they take part in, the edges of a lane.
-- Assumes nothing.
use Rattle.std.specs.Prelude.{ℕ, suc, ◌-◌, Bool, cond, List, [], ◌∷◌, leb, ltb, eqb}
use Rattle.rules.specs.Connectives.{◌and◌, ◌or◌}
use Rattle.rules.specs.Lists.{add_if, any, all, placed, some_lane}
use Rattle.rules.specs.HallLine.{Band}

-- a node: the key it stands at, and its level
pub record Node : Type 0 where
  pub key : ℕ
  pub level : ℕ

abbrev pub node_of : ℕ → ℕ → Node
node_of k l = record { key = k; level = l }

-- an edge joins two nodes, known by their keys
pub record Edge : Type 0 where
  pub from : ℕ
  pub to : ℕ

abbrev pub edge_of : ℕ → ℕ → Edge
edge_of x y = record { from = x; to = y }

-- there are 8 lanes, 0 to 7; the header stands before all nodes in all of them, and its links are no edges
abbrev pub lanes : ℕ
lanes = 8

-- some lane passes
abbrev pub in_some_lane : (ℕ → Bool) → Bool
in_some_lane f = some_lane f 0 lanes

-- some lane above lane i passes
abbrev pub in_some_lane_above : ℕ → (ℕ → Bool) → Bool
in_some_lane_above i f = some_lane f (suc i) (lanes - suc i)

-- a level is 1 to 8
unfoldable pub is_level : ℕ → Bool
is_level l = leb 1 l and leb l lanes

-- a node of level h takes part in lanes 0 to h - 1
unfoldable pub takes_part : ℕ → Node → Bool
takes_part i n = ltb i n.level

-- the keys of a lane's nodes, in the order of the nodes
abbrev pub lane_of : ℕ → List Node → List ℕ
lane_of i [] = []
lane_of i (n ∷ ns) = add_if (takes_part i n) n.key (lane_of i ns)

-- the edges from x on: each joins two nodes next to each other
abbrev pub edges_from : ℕ → List ℕ → List Edge
edges_from x [] = []
edges_from x (y ∷ ys) = edge_of x y ∷ edges_from y ys

-- the edges along a lane
abbrev pub edges_along : List ℕ → List Edge
edges_along [] = []
edges_along (x ∷ xs) = edges_from x xs

-- the edges of lane i
abbrev pub edges_in : ℕ → List Node → List Edge
edges_in i ns = edges_along (lane_of i ns)

-- a node stands at the key
unfoldable pub stands_at : ℕ → List Node → Bool
stands_at k ns = any (λ n. eqb n.key k) ns

-- the level of the node at the key; 0 where none stands
abbrev pub level_at : ℕ → List Node → ℕ
level_at k [] = 0
level_at k (n ∷ ns) = cond (eqb n.key k) n.level (level_at k ns)

-- the key is an end of the band
unfoldable pub is_end : ℕ → Band → Bool
is_end k b = eqb k b.low or eqb k b.high

-- the key is an end of some band of the list
unfoldable pub is_end_of_some : List Band → ℕ → Bool
is_end_of_some bs k = any (is_end k) bs

-- a node stands at each key that is an end of some band ..
unfoldable pub ends_stand : List Band → List Node → Bool
ends_stand bs ns = all (λ b. stands_at b.low ns and stands_at b.high ns) bs

-- .. and nowhere else
unfoldable pub only_ends_stand : List Band → List Node → Bool
only_ends_stand bs ns = all (λ n. is_end_of_some bs n.key) ns

-- a node made at the key with the given level, in key order; a node that stands there already stays with its own level
unfoldable pub with_node : ℕ → ℕ → List Node → List Node
with_node k l ns = cond (stands_at k ns) ns (placed (λ n. n.key) (node_of k l) ns)

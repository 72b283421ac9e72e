-- One band's marks slot by slot, and the staircase: the walk along its edges that finds them. The rule itself is in Marks; that the walk finds
-- exactly what the rule marks is proved, not defined.
-- Assumes nothing.
use Rattle.std.specs.Prelude.{ℕ, zero, suc, ◌+◌, ◌*◌, Bool, false, cond, List, [], ◌∷◌, ◌++◌, leb, ltb}
use Rattle.std.proofs.Math.Option.{Option, none, some}
use Rattle.rules.specs.Connectives.{◌and◌}
use Rattle.rules.specs.Lists.{add_if}
use Rattle.rules.specs.HallLine.{Band, holds}
use Rattle.rules.specs.NodesLanesEdges.{Node, edge_of, lanes, takes_part, lane_of}
use Rattle.rules.specs.Marks.{edge_marked, node_marked}

-- ---- slots

-- a node has nine slots: slot 0 is the node itself, slot 1 + i its edge in lane i
abbrev pub slots_per_node : ℕ
slots_per_node = suc lanes

-- slots are numbered node by node: slot s of the node that has j nodes before it
unfoldable pub slot_number : ℕ → ℕ → ℕ
slot_number j s = j * slots_per_node + s

-- the rule marks the band on the link from x in lane i, with the lane's keys ahead: a link to nothing carries no marks
unfoldable pub link_marked : List Node → Band → ℕ → ℕ → List ℕ → Bool
link_marked ns b i x [] = false
link_marked ns b i x (y ∷ ys) = edge_marked ns b i (edge_of x y)

-- the rule marks the band on the edge of lane i out of n, with `rest` after n
abbrev pub out_marked : List Node → Band → Node → List Node → ℕ → Bool
out_marked ns b n rest i = takes_part i n and link_marked ns b i n.key (lane_of i rest)

-- the marked slots among the m lanes from lane i up, of node n with j nodes before it and `rest` after it
abbrev pub marked_links : List Node → Band → ℕ → Node → List Node → ℕ → ℕ → List ℕ
marked_links ns b j n rest i zero = []
marked_links ns b j n rest i (suc m) =
    add_if (out_marked ns b n rest i) (slot_number j (suc i)) (marked_links ns b j n rest (suc i) m)

-- the slots that the rule marks for the band, of the nodes that have j others before them: node by node, at each its slots in order
abbrev pub marked_slots_from : List Node → Band → ℕ → List Node → List ℕ
marked_slots_from ns b j [] = []
marked_slots_from ns b j (n ∷ rest) =
    add_if (node_marked ns b n.key) (slot_number j 0) (marked_links ns b j n rest 0 lanes) ++ marked_slots_from ns b (suc j) rest

unfoldable pub marked_slots : List Node → Band → List ℕ
marked_slots ns b = marked_slots_from ns b 0 ns

-- ---- the staircase

-- a stair: the lane of the edge that is taken, and the key that it leads to
pub record Stair : Type 0 where
  pub lane : ℕ
  pub to : ℕ

abbrev pub stair_of : ℕ → ℕ → Stair
stair_of i y = record { lane = i; to = y }

-- the edge in lane i to the first of the lane's keys ahead, where it leads no further than the high end
abbrev pub stair_in : ℕ → ℕ → List ℕ → Option Stair
stair_in high i [] = none
stair_in high i (y ∷ ys) = cond (leb y high) (some (stair_of i y)) none

-- the first that there is
abbrev pub or_else : Option Stair → Option Stair → Option Stair
or_else none t = t
or_else (some s) t = some s

-- of the lowest m lanes, the highest edge out of n that leads no further than the high end, with `rest` after n
abbrev pub highest_stair : ℕ → Node → List Node → ℕ → Option Stair
highest_stair high n rest zero = none
highest_stair high n rest (suc i) =
    or_else (cond (takes_part i n) (stair_in high i (lane_of i rest)) none) (highest_stair high n rest i)

-- along the stair: its slot, and then the walk from where it leads; without a stair the walk is at its end
abbrev pub along : ℕ → Option Stair → (ℕ → List ℕ) → List ℕ
along j none onward = []
along j (some s) onward = slot_number j (suc s.lane) ∷ onward s.to

-- the walk from x on, over nodes that have j others before them: nodes before x are skipped; at x the node's slot if the band holds its key,
-- then the highest edge that stays inside the band, and on from there
abbrev pub walk_from : Band → ℕ → ℕ → List Node → List ℕ
walk_from b x j [] = []
walk_from b x j (n ∷ rest) =
    let skipped : List ℕ = walk_from b x (suc j) rest in
    let here : List ℕ =
    add_if (holds b n.key) (slot_number j 0)
    (along j (highest_stair b.high n rest lanes) (λ y. walk_from b y (suc j) rest)) in
    cond (ltb n.key x) skipped here

-- the slots that the walk visits, from the band's low end to its high end
unfoldable pub walk : List Node → Band → List ℕ
walk ns b = walk_from b b.low 0 ns

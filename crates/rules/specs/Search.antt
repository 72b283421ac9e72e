-- "The search": from the header in lane 7 down to lane 0, what it takes on the way, and what a stab answers.
-- Assumes nothing.
use Rattle.std.specs.Prelude.{ℕ, zero, suc, ◌+◌, Bool, not, cond, List, [], ◌∷◌, ◌++◌, ltb, length}
use Rattle.rules.specs.Connectives.{◌and◌}
use Rattle.rules.specs.Lists.{only_if, any, count_if}
use Rattle.rules.specs.NodesLanesEdges.{Node, edge_of, lane_of, lanes, takes_part, stands_at}
use Rattle.rules.specs.Profile.{Profile}
use Rattle.rules.specs.Marks.{marked_on_edge, marked_on_node}
use Rattle.rules.specs.Flags.{flags_of, count_of}

-- the search stands at the header, or on the node at a key
pub data Here : Type 0 where
  header : Here
  on : ℕ → Here

-- where the search stands, the nodes after that spot, and how many nodes it has stepped onto
pub record Spot : Type 0 where
  pub here : Here
  pub ahead : List Node
  pub steps : ℕ

abbrev pub spot_of : Here → List Node → ℕ → Spot
spot_of h ns s = record { here = h; ahead = ns; steps = s }

-- in lane i, step on while the next node is below k; the search drops the lane where the next is absent or not below k
abbrev pub drop_among : ℕ → ℕ → Spot → List Node → Spot
drop_among i k at [] = at
drop_among i k at (n ∷ ns) =
    let further : Spot = drop_among i k (spot_of (on n.key) ns (at.steps + 1)) ns in
    let skipped : Spot = drop_among i k at ns in
    cond (takes_part i n) (cond (ltb n.key k) further at) skipped

unfoldable pub drop_in : ℕ → ℕ → Spot → Spot
drop_in i k at = drop_among i k at at.ahead

-- on dropping from lane i, with the lane's nodes ahead: the edge's marks, only if the next node is above k;
-- the header's links and links to nothing carry no marks
abbrev pub drop_takes : Profile → ℕ → ℕ → Here → List ℕ → List ℕ
drop_takes p i k header next = []
drop_takes p i k (on x) [] = []
drop_takes p i k (on x) (y ∷ ys) = only_if (ltb k y) (marked_on_edge p i (edge_of x y))

-- after lane 0: if a node stands at k, its node marks
unfoldable pub node_takes : Profile → ℕ → List ℕ
node_takes p k = only_if (stands_at k p.nodes) (marked_on_node p k)

-- what the search takes in the lowest m lanes, each begun where the lane above stopped, and then at a node at k
abbrev pub takes_from : Profile → ℕ → ℕ → Spot → List ℕ
takes_from p k zero at = node_takes p k
takes_from p k (suc i) at =
    drop_takes p i k (drop_in i k at).here (lane_of i (drop_in i k at).ahead) ++ takes_from p k i (drop_in i k at)

-- the nodes stepped onto by the time the lowest m lanes are done
abbrev pub steps_from : ℕ → ℕ → Spot → ℕ
steps_from k zero at = at.steps
steps_from k (suc i) at = steps_from k i (drop_in i k at)

-- the search starts at the header, before all nodes
abbrev pub start : Profile → Spot
start p = spot_of header p.nodes 0

-- the band numbers of all marks that the search for k takes, in its order
unfoldable pub taken : Profile → ℕ → List ℕ
taken p k = takes_from p k lanes (start p)

-- how many nodes the search for k steps onto
unfoldable pub steps_of : Profile → ℕ → ℕ
steps_of p k = steps_from k lanes (start p)

-- some node of greater level stands between the node and k
unfoldable pub taller_between : List Node → ℕ → Node → Bool
taller_between ns k n = any (λ t. ltb n.level t.level and ltb n.key t.key and ltb t.key k) ns

-- a node is stepped onto when its key is below k and no node of greater level stands between it and k
unfoldable pub stepped_onto : List Node → ℕ → Node → Bool
stepped_onto ns k n = ltb n.key k and not (taller_between ns k n)

-- the looks reported are 8 plus the nodes stepped onto
unfoldable pub looks : Profile → ℕ → ℕ
looks p k = 8 + count_if (stepped_onto p.nodes k) p.nodes

-- what a stab answers where it is not refused: flags, count, marks met (how many marks the search takes), looks
pub record Stab : Type 0 where
  pub flags : List ℕ
  pub count : ℕ
  pub met : ℕ
  pub looks : ℕ

unfoldable pub stab_of : Profile → ℕ → Stab
stab_of p k = record { flags = flags_of (taken p k); count = count_of (taken p k); met = length (taken p k); looks = looks p k }

-- The nodes that any words say, sound or not: as many as the header counts, and the node of a place is the one that the place says.
-- Assumes nothing.
use Prim.Native.Nat.{ℕ, zero, suc, ◌+◌, ◌-◌, ◌≤◌, ◌<◌}
use mathlib.Core.Path.{◌≡◌, refl, ap}
use mathlib.Core.Logic.{◌↔◌, ⊎_map}
use mathlib.Core.List.{List, ◌∷◌}
use native.Mathlib.Omega.{arith}
use lib.ListN.{length, get_or, drop}
use Rattle.rules.specs.NodesLanesEdges.{Node}
use Rattle.rules.proofs.Lists.{In, place_within, made_length, made_at, made_here, SomeLane, some_lane_up}
use Rattle.store.specs.Places.{node_field, key_field, level_field, header, in_use}
use Rattle.store.specs.SaidProfile.{said_node, said_nodes_from, said_nodes}

module _ (nodes : List ℕ) where
  pub said_nodes_length : length (said_nodes nodes) ≡ in_use nodes
  unfolding said_nodes
  said_nodes_length = made_length (said_node nodes) (said_nodes_from nodes) (λ i. refl) (λ i m. refl) 1 (in_use nodes)

  -- the node of place j + 1, with those of the places after it
  pub said_here : (j : ℕ) → j < in_use nodes
      → drop j (said_nodes nodes) ≡ said_node nodes (suc j) ∷ drop (suc j) (said_nodes nodes)
  unfolding said_nodes
  said_here j h =
      let next : 1 + j ≡ suc j = omega arith in
      rw next at (made_here (said_node nodes) (said_nodes_from nodes) (λ i. refl) (λ i m. refl) 1 (in_use nodes) j h)

  -- by its number, counted from 0
  pub said_no : (j : ℕ) (n : Node) → j < in_use nodes → get_or (said_nodes nodes) j n ≡ said_node nodes (suc j)
  unfolding said_nodes
  said_no j n h =
      let next : 1 + j ≡ suc j = omega arith in
      rw next at (made_at (said_node nodes) (said_nodes_from nodes) (λ i. refl) (λ i m. refl) n 1 (in_use nodes) j h)

  -- the nodes from place j + 1 on
  pub said_from : (j : ℕ) → drop j (said_nodes nodes) ≡ said_nodes_from nodes (suc j) (in_use nodes - j)
  unfolding said_nodes
  said_from j = let next : 1 + j ≡ suc j = omega arith in rw next at (from 1 (in_use nodes) j)
    where
      from : (i m j : ℕ) → drop j (said_nodes_from nodes i m) ≡ said_nodes_from nodes (i + j) (m - j)
      from i m zero = let here : i + 0 ≡ i = omega arith in let all : m - 0 ≡ m = omega arith in rw (here, all)
      from i zero (suc j) = let none : 0 - suc j ≡ 0 = omega arith in rw none
      from i (suc m) (suc j) =
          let moved : i + suc j ≡ suc i + j = omega arith in
          let fewer : suc m - suc j ≡ m - j = omega arith in
          rw (moved, fewer) (from (suc i) m j)

  -- places are gone through as lanes are, hence the law of lanes
  in_said_from : (n : Node) (i m : ℕ) → In n (said_nodes_from nodes i m) ↔ SomeLane (λ j. n ≡ said_node nodes j) i m
  in_said_from n i zero = (λ h. absurd h, λ s. absurd (omega arith))
  in_said_from n i (suc m) =
      let later = in_said_from n (suc i) m in (
        λ h. (some_lane_up i m).1 (⊎_map (λ e. e) later.0 h),
        λ s. ⊎_map (λ e. e) later.1 ((some_lane_up i m).0 s),
      )

  -- a node is said exactly when some place in use says it
  pub in_said_nodes : (n : Node) → In n (said_nodes nodes) ↔ SomeLane (λ i. n ≡ said_node nodes i) 1 (in_use nodes)
  unfolding said_nodes
  in_said_nodes n = in_said_from n 1 (in_use nodes)

  -- where a node is said, the place is in use and says it, with its key and its level
  module _ (j : ℕ) {n : Node} {rest : List Node} (at : drop j (said_nodes nodes) ≡ n ∷ rest) where
    pub said_in_use : suc j ≤ in_use nodes
    said_in_use = omega (arith, place_within j (said_nodes nodes) at, said_nodes_length)

    pub said_at : said_node nodes (suc j) ≡ n
    said_at = cc (said_here j said_in_use)

    pub said_key : node_field nodes (suc j) key_field ≡ n.key
    unfolding said_node
    said_key = ap (λ m. m.key) said_at

    pub said_level : node_field nodes (suc j) level_field ≡ n.level
    unfolding said_node
    said_level = ap (λ m. m.level) said_at

-- words with the same keys and levels in all places say the same nodes
module _ (old new : List ℕ) (keys : (i : ℕ) → node_field new i key_field ≡ node_field old i key_field)
    (levels : (i : ℕ) → node_field new i level_field ≡ node_field old i level_field) where
  same_from : (i m : ℕ) → said_nodes_from new i m ≡ said_nodes_from old i m
  unfolding said_node
  same_from i zero = refl
  same_from i (suc m) = rw (keys i, levels i, same_from (suc i) m)

  pub same_said : said_nodes new ≡ said_nodes old
  unfolding said_nodes
  same_said = rw (keys header) (same_from 1 (in_use old))

-- What "the search" takes: as each lane is dropped at its last node below the key, what is taken there is what is marked on the edge of that lane over
-- the key; so in all it is what is marked on the edges over the key, and then on a node at the key.
-- Assumes nothing.
use Prim.Native.Nat.{ℕ, zero, suc, ◌≤◌}
use mathlib.Core.Path.{◌≡◌, refl, sym, ◌∙◌, ap, ap₂}
use mathlib.Core.List.{List, ◌++◌}
use native.Mathlib.Omega.{arith}
use Rattle.rules.specs.NodesLanesEdges.{Node, lanes, lane_of}
use Rattle.rules.specs.Profile.{Profile}
use Rattle.rules.specs.Search.{Spot, takes_from, taken}
use Rattle.rules.proofs.NodesLanesEdges.{Asc}
use Rattle.rules.proofs.Search.{marked_along, edges_over, marked_over}
use Rattle.rules.proofs.Theory.SearchReaches.{AtLastBelow, drop_spot, edge_ahead, over_ahead, drop_takes_lem, drop_spot_follows, reaches_last_below}

module _ (ns : List Node) (a : Asc 0 ns) (i k : ℕ) where
  -- where the lane is dropped at the last node below k, the edge of the lane over k is the one ahead, if its end is above k
  pub edges_over_ahead : (at : Spot) → AtLastBelow i k ns at → edges_over k i ns ≡ edge_ahead k at.here (lane_of i at.ahead)
  edges_over_ahead at r =
      over_ahead ns a i k at.here (lane_of i at.ahead) r.last_below (ap (lane_of i) (sym r.ahead_is))

module _ (p : Profile) (k : ℕ) (a : Asc 0 p.nodes) where
  -- what it takes from a lane down, begun where the lane above was dropped, is what is marked over k from that lane down ..
  pub takes_below : (m : ℕ) → m ≤ lanes → takes_from p k m (drop_spot p k m) ≡ marked_over p k m
  takes_below zero l = refl
  takes_below (suc i) l =
      let at = drop_spot p k i in
      let over = edges_over_ahead p.nodes a i k at (reaches_last_below p k a i l) in
      rw (← drop_spot_follows p k i l)
      (ap₂ (λ (xs ys : List ℕ). xs ++ ys)
      (drop_takes_lem p k i at.here (lane_of i at.ahead) ∙ ap (marked_along p i) (sym over))
      (takes_below i (omega arith)))

  -- .. so what the search takes is what is marked on the edges over k, and then on a node at k
  pub takes_marked_over : taken p k ≡ marked_over p k lanes
  unfolding taken
  takes_marked_over = takes_below lanes (omega arith)

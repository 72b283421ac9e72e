-- "The search": which nodes the paper calls stepped onto, to and from membership and arithmetic; and what the search takes, said directly:
-- in each lane the marks of the edges that pass over the key. That the search takes just these is shown in SearchTakes.
-- Assumes nothing.
use Prim.Native.Nat.{ℕ, zero, suc, ◌<◌}
use mathlib.Core.List.{List, [], ◌∷◌, ◌++◌}
use Rattle.rules.specs.Lists.{keep}
use Rattle.rules.specs.NodesLanesEdges.{Node, Edge, edges_in}
use Rattle.rules.specs.Profile.{Profile}
use Rattle.rules.specs.Marks.{passes_over, marked_on_edge}
use Rattle.rules.specs.Search.{node_takes, taller_between, stepped_onto}
use Rattle.rules.proofs.Means.{Means, reworded, denied, not_means, and_means, and3_means, lt_means}
use Rattle.rules.proofs.Lists.{Some, Each, any_means}

-- the second node is of greater level and stands between the first and k
abbrev pub TallerBetween : ℕ → Node → Node → Type 0
TallerBetween k n t = (n.level < t.level) × (n.key < t.key) × (t.key < k)

module _ (ns : List Node) (k : ℕ) (n : Node) where
  pub taller_between_means : Means (taller_between ns k n) (Some (TallerBetween k n) ns)
  unfolding taller_between
  taller_between_means = any_means (λ t. and3_means (lt_means n.level t.level) (lt_means n.key t.key) (lt_means t.key k)) ns

  -- a node is stepped onto when its key is below k and no node of greater level stands between it and k
  pub stepped_onto_means : Means (stepped_onto ns k n) ((n.key < k) × Each (λ t. TallerBetween k n t → ⊥) ns)
  unfolding stepped_onto
  stepped_onto_means =
      reworded
      (and_means (lt_means n.key k) (not_means (denied taller_between_means)))
      (λ h. (h.0, λ t i m. h.1 (t, i, m)))
      (λ h. (h.0, λ s. h.1 s.0 s.1 s.2))

-- ---- what the search takes, said directly

-- the numbers marked on edges of lane i, one edge after the other
abbrev pub marked_along : Profile → ℕ → List Edge → List ℕ
marked_along p i [] = []
marked_along p i (e ∷ es) = marked_on_edge p i e ++ marked_along p i es

-- the edges of lane i that pass over k: at most one, where nodes ascend
abbrev pub edges_over : ℕ → ℕ → List Node → List Edge
edges_over k i ns = keep (λ e. passes_over e k) (edges_in i ns)

-- what is marked on the edges over k in the lowest m lanes, from the highest of them down, and then on a node at k
abbrev pub marked_over : Profile → ℕ → ℕ → List ℕ
marked_over p k zero = node_takes p k
marked_over p k (suc i) = marked_along p i (edges_over k i p.nodes) ++ marked_over p k i

-- "Marks": the Bool rules say what the paper says with its quantifiers: over all lanes above, all edges of a lane, all bands of a profile.
-- Assumes nothing.
use Prim.Native.Nat.{ℕ, suc, ◌-◌, ◌≤◌, ◌<◌}
use mathlib.Core.Path.{◌≡◌, refl, ap}
use mathlib.Core.Bool.{Bool, true, false}
use mathlib.Core.Logic.{◌↔◌}
use mathlib.Core.List.{List, [], ◌∷◌, map}
use native.Mathlib.Omega.{arith}
use lib.ListN.{length}
use Rattle.rules.specs.Lists.{add_if, count_if}
use Rattle.rules.specs.HallLine.{Band, holds}
use Rattle.rules.specs.NodesLanesEdges.{Node, Edge, edges_in, lanes}
use Rattle.rules.specs.Profile.{Profile}
use Rattle.rules.specs.Marks.{inside, contains, covered_in_lane, edge_marked, edge_marks_in, passes_over, passed_over_in_lane, node_marked, numbers_where, marked_on_edge, marked_on_node}
use Rattle.rules.proofs.Means.{Means, reworded, itself, denied, not_means, and_means, lt_means, le_means}
use Rattle.rules.proofs.Lists.{In, Some, any_means, Distinct, in_made, length_made, in_map, lane_fails}
use Rattle.rules.proofs.NodesLanesEdges.{no_edge}

-- the edge lies inside the band
abbrev pub Inside : Edge → Band → Type 0
Inside e b = (b.low ≤ e.from) × (e.to ≤ b.high)

pub inside_means : (e : Edge) (b : Band) → Means (inside e b) (Inside e b)
unfolding inside
inside_means e b = and_means (le_means b.low e.from) (le_means e.to b.high)

-- the first edge contains the second
abbrev pub Contains : Edge → Edge → Type 0
Contains f e = (f.from ≤ e.from) × (e.to ≤ f.to)

pub contains_means : (f e : Edge) → Means (contains f e) (Contains f e)
unfolding contains
contains_means f e = and_means (le_means f.from e.from) (le_means e.to f.to)

-- the edge passes strictly over the key
abbrev pub PassesOver : Edge → ℕ → Type 0
PassesOver e k = (e.from < k) × (k < e.to)

pub passes_over_means : (e : Edge) (k : ℕ) → Means (passes_over e k) (PassesOver e k)
unfolding passes_over
passes_over_means e k = and_means (lt_means e.from k) (lt_means k e.to)

module _ (ns : List Node) (b : Band) where
  pub covered_in_lane_means : (e : Edge) (j : ℕ) → Means (covered_in_lane ns b e j) (Some (λ f. Contains f e × Inside f b) (edges_in j ns))
  unfolding covered_in_lane
  covered_in_lane_means e j = any_means (λ f. and_means (contains_means f e) (inside_means f b)) (edges_in j ns)

  pub passed_over_in_lane_means : (k j : ℕ) → Means (passed_over_in_lane ns b k j) (Some (λ e. PassesOver e k × Inside e b) (edges_in j ns))
  unfolding passed_over_in_lane
  passed_over_in_lane_means k j = any_means (λ e. and_means (passes_over_means e k) (inside_means e b)) (edges_in j ns)

  -- a band is marked on an edge of lane i exactly when the edge lies inside the band
  -- and no edge of a lane above i both contains it and lies inside the band
  pub edge_mark_rule :
      (i : ℕ) (e : Edge)
      → Means (edge_marked ns b i e)
      (Inside e b × ((j : ℕ) → i < j → j < lanes → (f : Edge) → In f (edges_in j ns) → Contains f e → Inside f b → ⊥))
  unfolding edge_marked
  edge_mark_rule i e =
      reworded
      (and_means (inside_means e b) (not_means (lane_fails (λ j. denied (covered_in_lane_means e j)) (suc i) (lanes - suc i))))
      (λ h. (h.0, λ j l u f m c n. h.1 j l (omega arith) (f, m, (c, n))))
      (λ h. (h.0, λ j l u s. h.1 j l (omega arith) s.0 s.1 s.2.0 s.2.1))

  -- a band is marked on a node exactly when it holds the node's key and no edge that passes strictly over the node lies inside the band
  pub node_mark_rule :
      (k : ℕ)
      → Means (node_marked ns b k)
      ((holds b k ≡ true) × ((j : ℕ) → j < lanes → (e : Edge) → In e (edges_in j ns) → PassesOver e k → Inside e b → ⊥))
  unfolding node_marked
  node_mark_rule k =
      reworded
      (and_means (itself (holds b k)) (not_means (lane_fails (λ j. denied (passed_over_in_lane_means k j)) 0 lanes)))
      (λ h. (h.0, λ j u e m o n. h.1 j (omega arith) (omega arith) (e, m, (o, n))))
      (λ h. (h.0, λ j l u s. h.1 j (omega arith) s.0 s.1 s.2.0 s.2.1))

-- the numbers of the bands that pass
pub in_numbers : {f : Band → Bool} {P : Band → Type 0} → ((b : Band) → Means (f b) (P b)) → (n : ℕ) (bs : List Band)
    → In n (numbers_where f bs) ↔ Some (λ b. P b × (b.number ≡ n)) bs
in_numbers {f} m n bs = in_made m (λ b. b.number) (numbers_where f) refl (λ b bs. refl) n bs

-- the numbers of the bands that hold the key
abbrev pub numbers_holding : List Band → ℕ → List ℕ
numbers_holding bs k = numbers_where (λ b. holds b k) bs

-- the numbers of all bands of a list
abbrev pub numbers_of : List Band → List ℕ
numbers_of bs = map (λ b. b.number) bs

-- the numbers of the bands that pass ..
module _ (f : Band → Bool) where
  -- .. are as many as those bands ..
  pub length_of_numbers : (bs : List Band) → length (numbers_where f bs) ≡ count_if f bs
  length_of_numbers bs = length_made (λ b. itself (f b)) (λ b. b.number) (numbers_where f) refl (λ b bs. refl) bs

  -- .. and none stands twice where none does among all
  pub numbers_stay_apart : (bs : List Band) → Distinct (numbers_of bs) → Distinct (numbers_where f bs)
  numbers_stay_apart [] d = tt
  numbers_stay_apart (b ∷ bs) d = go (f b) (numbers_stay_apart bs d.1)
    where
      go : (t : Bool) → Distinct (numbers_where f bs) → Distinct (add_if t b.number (numbers_where f bs))
      go true e = (
        λ i. let s = (in_numbers (λ c. itself (f c)) b.number bs).0 i in
            d.0 ((in_map (λ c. c.number) b.number bs).1 (s.0, s.1, s.2.1)),
        e,
      )
      go false e = e

module _ (p : Profile) where
  pub in_marked_on_edge :
      (n i : ℕ) (e : Edge) → In n (marked_on_edge p i e) ↔ Some (λ b. (edge_marked p.nodes b i e ≡ true) × (b.number ≡ n)) p.bands
  unfolding marked_on_edge
  in_marked_on_edge n i e = in_numbers (λ b. itself (edge_marked p.nodes b i e)) n p.bands

  pub in_marked_on_node : (n k : ℕ) → In n (marked_on_node p k) ↔ Some (λ b. (node_marked p.nodes b k ≡ true) × (b.number ≡ n)) p.bands
  unfolding marked_on_node
  in_marked_on_node n k = in_numbers (λ b. itself (node_marked p.nodes b k)) n p.bands

-- with one node alone no band is marked on an edge
pub no_edge_marks : (n : Node) (b : Band) (i : ℕ) → edge_marks_in (n ∷ []) b i ≡ 0
unfolding edge_marks_in
no_edge_marks n b i = ap (count_if (edge_marked (n ∷ []) b i)) (no_edge n i)

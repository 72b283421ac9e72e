-- The edges of all lanes over one ascending list of nodes: a lane's keys stand in every lane below it; of two edges that overlap, that of the
-- higher lane contains the other, so no two edges of a lane overlap; from one key of a lane to another, edges of the lane lie end to end.
-- Assumes nothing.
use Prim.Native.Nat.{ℕ, suc, ◌≤◌, ◌<◌}
use mathlib.Core.Path.{◌≡◌, refl, subst}
use mathlib.Core.Logic.{◌↔◌, ◌⊎◌, inl, inr, ⊎_elim}
use mathlib.Core.List.{List, [], ◌∷◌}
use native.Mathlib.Omega.{arith}
use native.Mathlib.Nat.{eq-or-lt_of_le}
use Rattle.rules.specs.NodesLanesEdges.{Node, Edge, edge_of, lane_of, edges_from, edges_along, edges_in}
use Rattle.rules.proofs.Means.{at_most_or_above}
use Rattle.rules.proofs.Lists.{In, Some, Each, Ascends, ascends_from}
use Rattle.rules.proofs.NodesLanesEdges.{NodeAt, in_lane, Asc, lane_ascends, Joins, edge_rule}
use Rattle.rules.proofs.Marks.{Contains, PassesOver}

-- a lane's keys stand in every lane below it
pub lane_falls : (i j k : ℕ) (ns : List Node) → i ≤ j → In k (lane_of j ns) → In k (lane_of i ns)
lane_falls i j k ns l h = let s = (in_lane j k ns).0 h in (in_lane i k ns).1 (s.0, s.1, (omega (arith, s.2.0), s.2.1))

-- a node's key stands in each lane that it takes part in
pub in_own_lane : (i : ℕ) (n : Node) (ns : List Node) → In n ns → i < n.level → In n.key (lane_of i ns)
in_own_lane i n ns m l = (in_lane i n.key ns).1 (n, m, (l, refl))

-- every node takes part in lane 0
pub in_lane_zero : (k : ℕ) (ns : List Node) → Each (λ n. 1 ≤ n.level) ns → NodeAt k ns → In k (lane_of 0 ns)
in_lane_zero k ns levels s = (in_lane 0 k ns).1 (s.0, s.1, (levels s.0 s.1, s.2))

-- a lane of the nodes from key c on has the lane's keys from c on
pub in_lane_from : (c : ℕ) (ns ms : List Node) → ((m : Node) → In m ms ↔ (In m ns × (c ≤ m.key)))
    → (i k : ℕ) → In k (lane_of i ms) ↔ (In k (lane_of i ns) × (c ≤ k))
in_lane_from c ns ms those i k = (
  λ h. let s = (in_lane i k ms).0 h in
      let t = (those s.0).0 s.1 in
      ((in_lane i k ns).1 (s.0, t.0, s.2), omega (arith, t.1, s.2.1)),
  λ h. let s = (in_lane i k ns).0 h.0 in
      (in_lane i k ms).1 (s.0, (those s.0).1 (s.1, omega (arith, h.1, s.2.1)), s.2),
)

-- from x on along ascending keys, up to one above k, there is an edge over k
over_from : (k y x : ℕ) (ks : List ℕ) → Ascends (λ z. z) (suc x) ks → x ≤ k → In y ks → k < y
    → Some (λ e. (e.from ≤ k) × (k < e.to)) (edges_from x ks)
over_from k y x [] a l i u = absurd i
over_from k y x (z ∷ zs) a l i u = further i (over_from k y z zs a.1) (at_most_or_above z k)
  where
    further : In y (z ∷ zs) → (z ≤ k → In y zs → k < y → Some (λ e. (e.from ≤ k) × (k < e.to)) (edges_from z zs)) → (z ≤ k) ⊎ (k < z)
        → Some (λ e. (e.from ≤ k) × (k < e.to)) (edges_from x (z ∷ zs))
    further j ih (inr h) = (edge_of x z, inl refl, (l, h))
    further (inl p) ih (inl h) = absurd (omega arith)
    further (inr j) ih (inl h) = let s = ih h j u in (s.0, inr s.1, s.2)

over_along : (k y x c : ℕ) (ks : List ℕ) → Ascends (λ z. z) c ks → In x ks → x ≤ k → In y ks → k < y
    → Some (λ e. (e.from ≤ k) × (k < e.to)) (edges_along ks)
over_along k y x c [] a i l j u = absurd i
over_along k y x c (z ∷ zs) a i l j u = over_from k y z zs a.1 (first i) (past j) u
  where
    first : In x (z ∷ zs) → z ≤ k
    first (inl p) = omega arith
    first (inr h) = omega (arith, ascends_from (λ w. w) (suc z) zs a.1 x h)

    past : In y (z ∷ zs) → In y zs
    past (inl p) = absurd (omega (arith, first i))
    past (inr h) = h

module _ (c : ℕ) (ns : List Node) (a : Asc c ns) where
  -- an edge of lane i ends, and begins, at keys of lane i with none of the lane between
  pub joins : (i : ℕ) (e : Edge) → In e (edges_in i ns) → Joins e (lane_of i ns)
  joins i e = (edge_rule i c e ns a).0

  -- of two edges that overlap, that of the higher lane contains the other
  pub nested : (i j : ℕ) (e f : Edge) → i ≤ j → In e (edges_in i ns) → In f (edges_in j ns) → f.from < e.to → e.from < f.to → Contains f e
  nested i j e f l p q u v =
      let e' = joins i e p in
      let f' = joins j f q in (
        ⊎_elim (λ h. h) (λ h. absurd (omega arith)) (e'.none_between f.from (lane_falls i j f.from ns l f'.from_in)),
        ⊎_elim (λ h. absurd (omega arith)) (λ h. h) (e'.none_between f.to (lane_falls i j f.to ns l f'.to_in)),
      )

  -- two edges of one lane that overlap are the same
  pub same_edge : (i : ℕ) (e f : Edge) → In e (edges_in i ns) → In f (edges_in i ns) → f.from < e.to → e.from < f.to → e ≡ f
  same_edge i e f p q u v =
      let x = nested i i e f (omega arith) p q u v in
      let y = nested i i f e (omega arith) q p v u in
      let from : e.from ≡ f.from = omega arith in
      let to : e.to ≡ f.to = omega arith in
      λ t. edge_of (from t) (to t)

  -- from one key of a lane up to another, each key is where an edge of the lane begins, or an edge passes over it
  pub edge_between : (i x y k : ℕ) → In x (lane_of i ns) → In y (lane_of i ns) → x ≤ k → k < y
      → Some (λ e. ((x ≤ e.from) × (e.from ≤ k)) × ((k < e.to) × (e.to ≤ y))) (edges_in i ns)
  edge_between i x y k p q l u =
      let s = over_along k y x c (lane_of i ns) (lane_ascends i c ns a) p l q u in
      let j = joins i s.0 s.1 in (
        s.0,
        s.1,
        (
          (⊎_elim (λ h. h) (λ h. absurd (omega (arith, s.2.0, s.2.1))) (j.none_between x p), s.2.0),
          (s.2.1, ⊎_elim (λ h. absurd (omega (arith, s.2.0, s.2.1))) (λ h. h) (j.none_between y q)),
        ),
      )

  -- and where the key is not of the lane the edge passes strictly over it
  pub edge_over : (i x y k : ℕ) → In x (lane_of i ns) → In y (lane_of i ns) → x < k → k < y → (In k (lane_of i ns) → ⊥)
      → Some (λ e. PassesOver e k × (x ≤ e.from) × (e.to ≤ y)) (edges_in i ns)
  edge_over i x y k p q l u off =
      let s = edge_between i x y k p q (omega arith) u in
      (s.0, s.1, ((strictly s.0 s.1 s.2.0.1, s.2.1.0), s.2.0.0, s.2.1.1))
    where
      strictly : (e : Edge) → In e (edges_in i ns) → e.from ≤ k → e.from < k
      strictly e m h = ⊎_elim (λ z. absurd (off (subst (λ w. In w (lane_of i ns)) z (joins i e m).from_in))) (λ h. h) (eq-or-lt_of_le h)

  -- an edge passes over no key of its lane
  pub none_over_own : (i k : ℕ) (e : Edge) → In e (edges_in i ns) → PassesOver e k → In k (lane_of i ns) → ⊥
  none_over_own i k e m o h = ⊎_elim (λ l. absurd (omega (arith, o))) (λ l. absurd (omega (arith, o))) ((joins i e m).none_between k h)

  -- at most one edge of a lane passes over a key
  pub one_over : (i k : ℕ) (e f : Edge) → In e (edges_in i ns) → In f (edges_in i ns) → PassesOver e k → PassesOver f k → e ≡ f
  one_over i k e f p q u v = same_edge i e f p q (omega arith) (omega arith)

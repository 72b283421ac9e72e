-- The marks by looking at one edge alone: an edge is marked exactly when it lies inside the band and the edge of the next lane that contains it
-- is absent or not inside; a node exactly when the band holds its key and the lowest edge over it is absent or not inside.
-- Assumes nothing.
use Prim.Native.Nat.{ℕ, suc, ◌≤◌, ◌<◌}
use mathlib.Core.Path.{◌≡◌, subst, ap}
use mathlib.Core.Bool.{Bool, true}
use mathlib.Core.Logic.{◌↔◌, ◌⊎◌, inl, inr, ⊎_elim}
use mathlib.Core.List.{List}
use native.Mathlib.Omega.{arith}
use Rattle.rules.specs.HallLine.{Band, holds}
use Rattle.rules.specs.NodesLanesEdges.{Node, Edge, lanes, lane_of, edges_in}
use Rattle.rules.specs.Marks.{edge_marked, node_marked}
use Rattle.rules.proofs.Means.{Means, reworded, at_most_or_above}
use Rattle.rules.proofs.Lists.{In, Some, Each, some_or_none, ascends_once}
use Rattle.rules.proofs.NodesLanesEdges.{Asc, Level, in_lane}
use Rattle.rules.proofs.Marks.{Inside, Contains, contains_means, PassesOver, passes_over_means, edge_mark_rule, node_mark_rule}
use Rattle.rules.proofs.Theory.EdgesNest.{lane_falls, in_own_lane, joins, nested, same_edge, edge_between, edge_over, none_over_own, one_over}

-- the edge of the list that is so is absent, or it does not lie inside the band
abbrev pub AbsentOrOutside : (Edge → Type 0) → Band → List Edge → Type 0
AbsentOrOutside P b es = Each (λ f. P f → ⊥) es ⊎ Some (λ f. P f × (Inside f b → ⊥)) es

-- where at most one edge is so, that is to say that none is so and lies inside
absent_or_outside : {P : Edge → Type 0} {t : Edge → Bool} → ((f : Edge) → Means (t f) (P f)) → (b : Band) (es : List Edge)
    → ((f g : Edge) → In f es → In g es → P f → P g → f ≡ g)
    → Each (λ f. P f → Inside f b → ⊥) es ↔ AbsentOrOutside P b es
absent_or_outside m b es one = (
  λ h. ⊎_elim (λ s. inr (s.0, s.1, (s.2, h s.0 s.1 s.2))) inl (some_or_none m es),
  ⊎_elim (λ h f i p n. h f i p) (λ s f i p n. s.2.1 (subst (λ g. Inside g b) (one f s.0 i s.1 p s.2.0) n)),
)

module _ (ns : List Node) (a : Asc 0 ns) (levels : Each (λ n. Level n.level) ns) where
  -- a lane that has an edge is one of the eight
  pub lane_of_edge : (i : ℕ) (e : Edge) → In e (edges_in i ns) → i < lanes
  lane_of_edge i e m = let s = (in_lane i e.from ns).0 (joins 0 ns a i e m).from_in in let l = levels s.0 s.1 in omega (arith, s.2.0)

  -- two edges of one lane that contain an edge are the same
  pub one_contains : (i : ℕ) (e f g : Edge) → e.from < e.to → In f (edges_in i ns) → In g (edges_in i ns) → Contains f e → Contains g e → f ≡ g
  one_contains i e f g u m n p q = same_edge 0 ns a i f g m n (omega arith) (omega arith)

  -- an edge of a higher lane that contains an edge of lane i contains one of the next lane that does
  pub next_lane_contains : (i j : ℕ) (e f : Edge) → In e (edges_in i ns) → i < j → In f (edges_in j ns) → Contains f e
      → Some (λ g. Contains g e × Contains f g) (edges_in (suc i) ns)
  next_lane_contains i j e f m l n c =
      let e' = joins 0 ns a i e m in
      let f' = joins 0 ns a j f n in
      let u = e'.upward in
      let s =
      edge_between 0 ns a (suc i) f.from f.to e.from
      (lane_falls (suc i) j f.from ns l f'.from_in)
      (lane_falls (suc i) j f.to ns l f'.to_in)
      c.0
      (omega arith) in
      let h = s.2 in
      (s.0, s.1, (nested 0 ns a i (suc i) e s.0 (omega arith) m s.1 (omega arith) (omega arith), (h.0.0, h.1.1)))

  -- an edge over a node is of no lane of the node's own, and contains one of the lowest lane that the node is not in
  pub lowest_over : (n : Node) → In n ns → (j : ℕ) (e : Edge) → In e (edges_in j ns) → PassesOver e n.key
      → (n.level ≤ j) × Some (λ f. PassesOver f n.key × Contains e f) (edges_in n.level ns)
  lowest_over n m j e i o = ⊎_elim (λ l. (l, over l)) (λ l. absurd (none_over_own 0 ns a j n.key e i o (in_own_lane j n ns m l))) (at_most_or_above n.level j)
    where
      off : In n.key (lane_of n.level ns) → ⊥
      off h =
          let s = (in_lane n.level n.key ns).0 h in
          let same = ascends_once (λ z. z.key) 0 ns a s.0 n s.1 m s.2.1 in
          omega (arith, s.2.0, ap (λ z. z.level) same)

      over : n.level ≤ j → Some (λ f. PassesOver f n.key × Contains e f) (edges_in n.level ns)
      over l =
          let e' = joins 0 ns a j e i in
          let s =
          edge_over 0 ns a n.level e.from e.to n.key
          (lane_falls n.level j e.from ns l e'.from_in)
          (lane_falls n.level j e.to ns l e'.to_in)
          o.0
          o.1
          off in
          (s.0, s.1, (s.2.0, (s.2.1, s.2.2)))

  module _ (b : Band) where
    -- an edge of lane i is marked exactly when it lies inside the band and the edge of the next lane that contains it is absent or not inside
    pub edge_marked_locally : (i : ℕ) (e : Edge) → In e (edges_in i ns)
        → Means (edge_marked ns b i e) (Inside e b × AbsentOrOutside (λ f. Contains f e) b (edges_in (suc i) ns))
    edge_marked_locally i e m =
        let up = (joins 0 ns a i e m).upward in
        let local = absent_or_outside (λ f. contains_means f e) b (edges_in (suc i) ns) (λ f g p q. one_contains (suc i) e f g up p q) in
        reworded (edge_mark_rule ns b i e)
        (λ h. (h.0, local.0 (λ f p c n. h.1 (suc i) (omega arith) (lane_of_edge (suc i) f p) f p c n)))
        (λ h. (h.0, λ j l u f p c n. let s = next_lane_contains i j e f m l p c in local.1 h.1 s.0 s.1 s.2.0 (omega (arith, s.2.1, n))))

    -- a node is marked exactly when the band holds its key and the lowest edge over it, which is of the lane of the node's level by
    -- `lowest_over`, is absent or not inside
    pub node_marked_locally : (n : Node) → In n ns
        → Means (node_marked ns b n.key) ((holds b n.key ≡ true) × AbsentOrOutside (λ e. PassesOver e n.key) b (edges_in n.level ns))
    node_marked_locally n m =
        let local =
        absent_or_outside (λ e. passes_over_means e n.key) b (edges_in n.level ns)
        (one_over 0 ns a n.level n.key) in
        reworded (node_mark_rule ns b n.key)
        (λ h. (h.0, local.0 (λ f p o i. h.1 n.level (lane_of_edge n.level f p) f p o i)))
        (λ h. (h.0, λ j l e p o i. let s = lowest_over n m j e p o in local.1 h.1 s.1.0 s.1.1 s.1.2.0 (omega (arith, s.1.2.1, i))))

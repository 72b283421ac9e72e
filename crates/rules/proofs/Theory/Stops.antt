-- The staircase without its slots. A stop of a band is a key that no edge inside the band passes strictly over; a stair is the highest edge
-- out of a stop that lies inside the band. A stair is marked and leads to a stop, and of what it overlaps nothing else is marked.
-- Assumes nothing.
use Prim.Native.Nat.{ℕ, ◌≤◌, ◌<◌}
use mathlib.Core.Path.{◌≡◌, refl, subst}
use mathlib.Core.Bool.{true, false}
use mathlib.Core.Logic.{◌⊎◌, ⊎_elim}
use mathlib.Core.List.{List}
use native.Mathlib.Omega.{arith}
use native.Mathlib.Nat.{eq-or-lt_of_le}
use Rattle.rules.specs.HallLine.{Band, holds}
use Rattle.rules.specs.NodesLanesEdges.{Node, Edge, edge_of, lanes, lane_of, edges_in}
use Rattle.rules.specs.Marks.{edge_marked, node_marked}
use Rattle.rules.proofs.Means.{itself, denied, same_means, at_most_or_above}
use Rattle.rules.proofs.Lists.{In, Each}
use Rattle.rules.proofs.HallLine.{held_between}
use Rattle.rules.proofs.NodesLanesEdges.{Asc, Level, NodeAt}
use Rattle.rules.proofs.Marks.{Inside, Contains, PassesOver, edge_mark_rule, node_mark_rule}
use Rattle.rules.proofs.Theory.EdgesNest.{in_lane_zero, joins, nested, edge_between, none_over_own}

module _ (ns : List Node) (b : Band) where
  -- a stop: no edge inside the band passes strictly over the key
  abbrev pub Stop : ℕ → Type 0
  Stop x = (j : ℕ) → j < lanes → (e : Edge) → In e (edges_in j ns) → PassesOver e x → Inside e b → ⊥

  -- the edge of lane i out of x, where there is one, leads beyond the high end
  abbrev pub Beyond : ℕ → ℕ → Type 0
  Beyond x i = (y : ℕ) → In (edge_of x y) (edges_in i ns) → b.high < y

  -- nothing is marked at the key: not the node there, and no edge out of it
  pub record Bare (k : ℕ) : Type 0 where
    pub node_bare : node_marked ns b k ≡ false
    pub edges_bare : (i : ℕ) → i < lanes → (y : ℕ) → In (edge_of k y) (edges_in i ns) → edge_marked ns b i (edge_of k y) ≡ false

  -- a stair: an edge of lane i inside the band, out of a stop, where every edge of a higher lane out of that stop leads beyond the high end
  pub record IsStair (i : ℕ) (e : Edge) : Type 0 where
    pub is_lane : i < lanes
    pub is_edge : In e (edges_in i ns)
    pub is_inside : Inside e b
    pub from_stop : Stop e.from
    pub highest : (j : ℕ) → i < j → j < lanes → Beyond e.from j

  -- the low end is a stop
  pub low_is_stop : Stop b.low
  low_is_stop j l e m o h = omega arith

  -- at a stop the node is marked exactly when the band holds its key
  pub stop_mark : (x : ℕ) → Stop x → node_marked ns b x ≡ holds b x
  stop_mark x s = same_means (node_mark_rule ns b x) (itself (holds b x)) (λ h. h.0) (λ h. (h, s))

  -- an edge that leads beyond the high end is not marked
  pub beyond_unmarked : (i : ℕ) (e : Edge) → b.high < e.to → edge_marked ns b i e ≡ false
  beyond_unmarked i e l = (denied (edge_mark_rule ns b i e)).test (λ h. omega (arith, h.0))

  module _ (a : Asc 0 ns) where
    -- nothing is marked below the low end or above the high end
    pub outside_bare : (k : ℕ) → (k < b.low) ⊎ (b.high < k) → Bare k
    outside_bare k out =
        record {
          node_bare =
              (denied (node_mark_rule ns b k)).test
              (λ h. let f = held_between b k h.0 in ⊎_elim (λ l. omega arith) (λ l. omega arith) out);
          edges_bare = λ i l y m. (denied (edge_mark_rule ns b i (edge_of k y))).test
              (λ h. let u = (joins 0 ns a i (edge_of k y) m).upward in ⊎_elim (λ l. omega (arith, h.0)) (λ l. omega (arith, h.0)) out);
        }

    -- where all lanes lead beyond the high end, a node is not before it
    pub at_high : Each (λ n. Level n.level) ns → NodeAt b.high ns → (n : Node) → In n ns → ((i : ℕ) → i < lanes → Beyond n.key i)
        → b.high ≤ n.key
    at_high levels top n m out = ⊎_elim (λ l. l) further (at_most_or_above b.high n.key)
      where
        lowest : (k : ℕ) → NodeAt k ns → In k (lane_of 0 ns)
        lowest k = in_lane_zero k ns (λ t i. (levels t i).0)

        further : n.key < b.high → b.high ≤ n.key
        further l =
            let s = edge_between 0 ns a 0 n.key b.high n.key (lowest n.key (n, m, refl)) (lowest b.high top) (omega arith) l in
            let from : s.0.from ≡ n.key = omega (arith, s.2) in
            let far = out 0 (omega arith) s.0.to (subst (λ k. In (edge_of k s.0.to) (edges_in 0 ns)) from s.1) in
            omega (arith, s.2)

module _ {ns : List Node} {b : Band} (a : Asc 0 ns) {i : ℕ} {e : Edge} (s : IsStair ns b i e) where
  -- of the edges inside the band a stair overlaps only such as it contains, of its lane or lower ones
  overlapped : (j : ℕ) (f : Edge) → j < lanes → In f (edges_in j ns) → Inside f b → f.from < e.to → e.from < f.to
      → (j ≤ i) × Contains e f
  overlapped j f l m h u v =
      let below : j ≤ i = ⊎_elim (λ z. z) (λ z. absurd (higher z)) (at_most_or_above j i) in
      (below, nested 0 ns a j i f e below m s.is_edge v u)
    where
      not_over : e.from ≤ f.from
      not_over = ⊎_elim (λ z. z) (λ z. absurd (s.from_stop j l f m (z, v) h)) (at_most_or_above e.from f.from)

      higher : i < j → ⊥
      higher z =
          let same : f.from ≡ e.from = omega (arith, nested 0 ns a i j e f (omega arith) s.is_edge m u v, not_over) in
          omega (arith, s.highest j z l f.to (subst (λ x. In (edge_of x f.to) (edges_in j ns)) same m))

  upward : e.from < e.to
  upward = (joins 0 ns a i e s.is_edge).upward

  -- a stair is marked ..
  pub stair_marked : edge_marked ns b i e ≡ true
  stair_marked =
      (edge_mark_rule ns b i e).test
      (s.is_inside, λ j l u f m c h. let w = upward in omega (arith, (overlapped j f u m h (omega arith) (omega arith)).0))

  -- .. no edge of another lane that it overlaps is ..
  pub none_beside : (j : ℕ) (f : Edge) → j < lanes → In f (edges_in j ns) → f.from < e.to → e.from < f.to
      → edge_marked ns b j f ≡ true → j ≡ i
  none_beside j f l m u v t =
      let h = (edge_mark_rule ns b j f).fact t in
      let o = overlapped j f l m h.0 u v in
      ⊎_elim (λ p. p) (λ z. absurd (h.1 i z s.is_lane e s.is_edge o.1 s.is_inside)) (eq-or-lt_of_le o.0)

  -- .. nothing is marked at a key that it passes over ..
  pub passed_bare : (k : ℕ) → PassesOver e k → Bare ns b k
  passed_bare k o =
      record {
        node_bare = (denied (node_mark_rule ns b k)).test (λ h. h.1 i s.is_lane e s.is_edge o s.is_inside);
        edges_bare = λ j l y m. (denied (itself (edge_marked ns b j (edge_of k y)))).test
            (λ t. let f = joins 0 ns a j (edge_of k y) m in
            let same = none_beside j (edge_of k y) l m o.1 (omega (arith, o, f.upward)) t in
            none_over_own 0 ns a i k e s.is_edge o (subst (λ w. In k (lane_of w ns)) same f.from_in));
      }

  -- .. and where it leads is a stop
  pub stair_to_stop : Stop ns b e.to
  stair_to_stop j l f m o h = let w = upward in omega (arith, (overlapped j f l m h o.0 (omega arith)).1)

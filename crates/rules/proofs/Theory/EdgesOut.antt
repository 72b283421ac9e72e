-- The edges of a lane are those that lead out of a node, and where nodes ascend each leads out of one node only: a lane's edge out of a node
-- leads to the first of the lane's keys after it. A node is named by how many stand before it: with j before it, it is the first of `drop j ns`.
-- Assumes nothing.
use Prim.Native.Nat.{ℕ, zero, suc, ◌≤◌, ◌<◌}
use mathlib.Core.Path.{◌≡◌, refl, sym, ap, subst}
use mathlib.Core.Bool.{Bool, true, false}
use mathlib.Core.Logic.{◌↔◌, ◌⊎◌, inl, inr, ⊎_elim, ⊎_map}
use mathlib.Core.List.{List, [], ◌∷◌}
use mathlib.Core.Option.{Option, none, some}
use native.Mathlib.Omega.{arith}
use lib.ListN.{drop}
use lib.Seq.{drop-nil}
use Rattle.rules.specs.Lists.{add_if, first_of}
use Rattle.rules.specs.NodesLanesEdges.{Node, Edge, edge_of, takes_part, lane_of, edges_along, edges_in}
use Rattle.rules.specs.Profile.{Profile}
use Rattle.rules.specs.Readouts.{next_in}
use Rattle.rules.proofs.Means.{never, at_most_or_above}
use Rattle.rules.proofs.Lists.{In, Each, at_some_place, in_at_place, ascends_from, ascends_once, first_in, first_least}
use Rattle.rules.proofs.NodesLanesEdges.{Asc, takes_part_means, in_lane, lane_ascends, edge_rule}
use Rattle.rules.proofs.Readouts.{next_by_edge}
use Rattle.rules.proofs.Theory.EdgesNest.{in_own_lane, in_lane_from}

-- ---- the edges of a lane are the edges out of its nodes

-- e is the edge of lane i out of the first of these nodes
abbrev pub LeadsOut : ℕ → List Node → Edge → Type 0
LeadsOut i [] e = ⊥
LeadsOut i (n ∷ rest) e = (i < n.level) × (n.key ≡ e.from) × (first_of (lane_of i rest) ≡ some e.to)

in_edges : (e : Edge) (t : Bool) (x : ℕ) (ks : List ℕ)
    → In e (edges_along (add_if t x ks)) ↔ (((t ≡ true) × (x ≡ e.from) × (first_of ks ≡ some e.to)) ⊎ In e (edges_along ks))
in_edges e true x [] = (λ h. absurd h, ⊎_elim (λ h. absurd (first_in e.to [] h.2)) (λ h. h))
in_edges e true x (y ∷ ys) = (
  ⊎_map (λ p. (refl, ap (λ f. f.from) (sym p), ap (λ f. some f.to) (sym p))) (λ h. h),
  ⊎_map (λ h. let p : e.to ≡ y = cc in λ t. edge_of (sym h.1 t) (p t)) (λ h. h),
)
in_edges e false x ks = (inr, ⊎_elim (λ h. never h.0) (λ h. h))

-- the edges of lane i are those that lead out of some node
pub edge_out_of : (i : ℕ) (e : Edge) (ns : List Node) → In e (edges_in i ns) ↔ ((j : ℕ) × LeadsOut i (drop j ns) e)
edge_out_of i e ns = at_some_place (λ c ms. In e (edges_in i ms)) (λ c ms. LeadsOut i ms e) (λ c h. h) (λ c h. h) first ns
  where
    first : (c : ℕ) (n : Node) (rest : List Node) → In e (edges_in i (n ∷ rest)) ↔ (LeadsOut i (n ∷ rest) e ⊎ In e (edges_in i rest))
    first c n rest =
        let t = takes_part_means i n in
        let a = in_edges e (takes_part i n) n.key (lane_of i rest) in (
          λ h. ⊎_map (λ p. (t.fact p.0, p.1, p.2)) (λ l. l) (a.0 h),
          λ h. a.1 (⊎_map (λ p. (t.test p.0, p.1, p.2)) (λ l. l) h),
        )

-- ---- each edge leads out of one node only, where nodes are in key order

-- the first of these nodes stands at the key
abbrev pub StartsAt : ℕ → List Node → Type 0
StartsAt x [] = ⊥
StartsAt x (n ∷ rest) = n.key ≡ x

nowhere_starts : (x j : ℕ) → StartsAt x (drop j []) → ⊥
nowhere_starts x j s = subst (StartsAt x) (drop-nil j) s

starts_from_lem : (c x j : ℕ) (ns : List Node) → Asc c ns → StartsAt x (drop j ns) → c ≤ x
starts_from_lem c x j [] a s = absurd (nowhere_starts x j s)
starts_from_lem c x zero (n ∷ ns) a s = omega arith
starts_from_lem c x (suc j) (n ∷ ns) a s = omega (arith, starts_from_lem (suc n.key) x j ns a.1 s)

no_later : (c x j k : ℕ) (ns : List Node) → Asc c ns → StartsAt x (drop j ns) → StartsAt x (drop k ns) → j ≤ k
no_later c x j k [] a p q = absurd (nowhere_starts x j p)
no_later c x zero k (n ∷ ns) a p q = omega arith
no_later c x (suc j) zero (n ∷ ns) a p q = absurd (omega (arith, starts_from_lem (suc n.key) x j ns a.1 p))
no_later c x (suc j) (suc k) (n ∷ ns) a p q = omega (arith, no_later (suc n.key) x j k ns a.1 p q)

-- at one place only does a node stand at the key
pub one_place : (c : ℕ) (ns : List Node) → Asc c ns → (x j k : ℕ) → StartsAt x (drop j ns) → StartsAt x (drop k ns) → j ≡ k
one_place c ns a x j k p q = omega (arith, no_later c x j k ns a p q, no_later c x k j ns a q p)

module _ (c : ℕ) (ns : List Node) (a : Asc c ns) (i : ℕ) where
  starts : (e : Edge) (ms : List Node) → LeadsOut i ms e → StartsAt e.from ms
  starts e [] o = o
  starts e (n ∷ rest) o = o.1

  -- an edge leads out of one node only
  pub edge_once : (e : Edge) (j k : ℕ) → LeadsOut i (drop j ns) e → LeadsOut i (drop k ns) e → j ≡ k
  edge_once e j k o p = one_place c ns a e.from j k (starts e (drop j ns) o) (starts e (drop k ns) p)

-- ---- the nodes ahead

-- ms are the nodes of ns from key c on
pub record Ahead (ns : List Node) (c : ℕ) (ms : List Node) : Type 0 where
  pub ascend : Asc c ms
  pub those : (m : Node) → In m ms ↔ (In m ns × (c ≤ m.key))

-- at first all nodes are ahead
pub all_ahead : (ns : List Node) → Asc 0 ns → Ahead ns 0 ns
all_ahead ns a = record { ascend = a; those = λ m. (λ i. (i, omega arith), λ h. h.0) }

module _ {ns : List Node} {c : ℕ} {n : Node} {rest : List Node} (f : Ahead ns c (n ∷ rest)) where
  -- the first node ahead is one of all ..
  pub node_ahead : In n ns
  node_ahead = ((f.those n).0 (inl refl)).0

  -- .. and the others are those above it
  pub rest_ahead : Ahead ns (suc n.key) rest
  rest_ahead =
      record {
        ascend = f.ascend.1;
        those = λ m. (
          λ i. (((f.those m).0 (inr i)).0, ascends_from (λ k. k.key) (suc n.key) rest f.ascend.1 m i),
          λ h. ⊎_elim
              (λ p. absurd (omega (arith, h.1, ap (λ k. k.key) p)))
              (λ i. i)
              ((f.those m).1 (h.0, omega (arith, h.1, f.ascend.0))),
        );
      }

  -- the same along a lane
  pub lane_ahead : (i k : ℕ) → In k (lane_of i rest) ↔ (In k (lane_of i ns) × (n.key < k))
  lane_ahead = in_lane_from (suc n.key) ns rest rest_ahead.those

  -- a lane's edge out of the node leads to the first of the lane's keys ahead
  pub next_edge : Asc 0 ns → (i y : ℕ) → ((i < n.level) × (first_of (lane_of i rest) ≡ some y)) ↔ In (edge_of n.key y) (edges_in i ns)
  next_edge a i y = (
    λ h. let s = least.0 h.1 in
        let t = (lane_ahead i y).0 s.0 in
        (edge_rule i 0 (edge_of n.key y) ns a).1
        (record {
          from_in = in_own_lane i n ns node_ahead h.0;
          to_in = t.0;
          upward = t.1;
          none_between = λ k m. ⊎_elim inl (λ l. inr (s.1 k ((lane_ahead i k).1 (m, l)))) (at_most_or_above k n.key);
        }),
    λ m. let j = (edge_rule i 0 (edge_of n.key y) ns a).0 m in
        let s = (in_lane i n.key ns).0 j.from_in in
        let p = ascends_once (λ k. k.key) 0 ns a s.0 n s.1 node_ahead s.2.1 in (
          subst (λ k. i < k.level) p s.2.0,
          least.1 (
            (lane_ahead i y).1 (j.to_in, j.upward),
            λ k g. let t = (lane_ahead i k).0 g in
                ⊎_elim (λ l. absurd (omega arith)) (λ l. l) (j.none_between k t.0),
          ),
        ),
  )
    where
      least : (first_of (lane_of i rest) ≡ some y) ↔ (In y (lane_of i rest) × Each (λ k. y ≤ k) (lane_of i rest))
      least = first_least (λ k. k) (suc n.key) (lane_of i rest) (lane_ascends i (suc n.key) rest f.ascend.1) y

-- the nodes from any place on are ahead
pub from_place_ahead : (ns : List Node) (j c : ℕ) (ms : List Node) → Ahead ns c ms → (d : ℕ) × Ahead ns d (drop j ms)
from_place_ahead ns zero c ms f = (c, f)
from_place_ahead ns (suc j) c [] f = (c, f)
from_place_ahead ns (suc j) c (n ∷ rest) f = from_place_ahead ns j (suc n.key) rest (rest_ahead f)

-- out of the node at a place: it takes part and y is the lane's next key exactly when the lane has the edge from it to y
pub edge_here : (ns : List Node) → Asc 0 ns → (i j : ℕ) (n : Node) (rest : List Node) → drop j ns ≡ n ∷ rest → (y : ℕ)
    → ((i < n.level) × (first_of (lane_of i rest) ≡ some y)) ↔ In (edge_of n.key y) (edges_in i ns)
edge_here ns a i j n rest at =
    let f = from_place_ahead ns j 0 ns (all_ahead ns a) in next_edge (subst (Ahead ns f.0) at f.1) a i

same_option : (a b : Option ℕ) → ((y : ℕ) → (a ≡ some y) ↔ (b ≡ some y)) → a ≡ b
same_option none none h = refl
same_option none (some y) h = (h y).1 refl
same_option (some x) b h = sym ((h x).0 refl)

-- the next node after a node in a lane of its own is the lane's first after it
pub next_at_place : (p : Profile) → Asc 0 p.nodes → (i j : ℕ) (n : Node) (rest : List Node) → drop j p.nodes ≡ n ∷ rest → i < n.level
    → next_in p n.key i ≡ first_of (lane_of i rest)
next_at_place p a i j n rest at part =
    same_option (next_in p n.key i) (first_of (lane_of i rest))
    (λ y. let e = next_by_edge p n.key i 0 a y (in_own_lane i n p.nodes (in_at_place j p.nodes at) part) in
    let o = edge_here p.nodes a i j n rest at y in
    (λ f. (o.1 (e.0 f)).1, λ f. e.1 (o.0 (part, f))))

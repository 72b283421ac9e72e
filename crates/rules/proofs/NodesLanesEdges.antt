-- "Nodes, lanes, edges": levels, where nodes stand, whose ends they are and who takes part in a lane, to and from membership and arithmetic;
-- of nodes in key order, that an edge joins two that are next to each other, that edges ascend, and that the level at a key is that of its node;
-- what making a node at a key leaves, and that a level stays.
-- Assumes nothing.
use Prim.Native.Nat.{ℕ, suc, ◌≤◌, ◌<◌}
use mathlib.Core.Path.{◌≡◌, refl, sym, ap, subst, ◌∙◌}
use mathlib.Core.Bool.{Bool, true, false, cond}
use mathlib.Core.Logic.Iff
use mathlib.Core.Logic.{◌↔◌, ◌⊎◌, inl, inr, ⊎_elim, ⊎_map}
use mathlib.Core.List.{List, [], ◌∷◌}
use native.Mathlib.Omega.{arith}
use lib.ListN.{length, drop}
use borrow.Author.Tests.{eq-eqb, ne_eqb, le-ltb}
use Rattle.rules.specs.Connectives.{◌or◌}
use Rattle.rules.specs.Lists.{add_if, placed}
use Rattle.rules.specs.HallLine.{Band}
use Rattle.rules.specs.NodesLanesEdges.{Node, Edge, edge_of, lanes, is_level, takes_part, lane_of, edges_from, edges_along, edges_in, level_at, stands_at, is_end, is_end_of_some, ends_stand, only_ends_stand, node_of, with_node}
use Rattle.rules.proofs.Means.{Means, reworded, denied, and_means, or_means, lt_means, le_means, eq_means}
use Rattle.rules.proofs.Lists.{some_or_none, in_at_place, in_placed, placed_ascends, placed_first, length_placed, ascends_from, In, Some, Each, each_cons, any_means, all_means, in_made, Ascends, ascends_lower}

-- a level is 1 to 8
abbrev pub Level : ℕ → Type 0
Level l = (1 ≤ l) × (l ≤ lanes)

pub is_level_means : (l : ℕ) → Means (is_level l) (Level l)
unfolding is_level
is_level_means l = and_means (le_means 1 l) (le_means l lanes)

pub takes_part_means : (i : ℕ) (n : Node) → Means (takes_part i n) (i < n.level)
unfolding takes_part
takes_part_means i n = lt_means i n.level

-- the keys of a lane are those of the nodes that take part in it
pub in_lane : (i k : ℕ) (ns : List Node) → In k (lane_of i ns) ↔ Some (λ n. (i < n.level) × (n.key ≡ k)) ns
in_lane i k ns = in_made (takes_part_means i) (λ n. n.key) (lane_of i) refl (λ n ns. refl) k ns

-- a node stands at the key
abbrev pub NodeAt : ℕ → List Node → Type 0
NodeAt k ns = Some (λ n. n.key ≡ k) ns

pub stands_at_means : (k : ℕ) (ns : List Node) → Means (stands_at k ns) (NodeAt k ns)
unfolding stands_at
stands_at_means k ns = any_means (λ n. eq_means n.key k) ns

-- no node stands at the key
abbrev pub NoNodeAt : ℕ → List Node → Type 0
NoNodeAt k ns = Each (λ n. n.key ≡ k → ⊥) ns

pub node_or_none : (k : ℕ) (ns : List Node) → NodeAt k ns ⊎ NoNodeAt k ns
node_or_none k ns = some_or_none (λ n. eq_means n.key k) ns

-- the key is an end of the band
abbrev pub EndOf : ℕ → Band → Type 0
EndOf k b = (k ≡ b.low) ⊎ (k ≡ b.high)

pub is_end_means : (k : ℕ) (b : Band) → Means (is_end k b) (EndOf k b)
unfolding is_end
is_end_means k b = or_means (eq_means k b.low) (eq_means k b.high)

pub is_end_of_some_means : (bs : List Band) (k : ℕ) → Means (is_end_of_some bs k) (Some (EndOf k) bs)
unfolding is_end_of_some
is_end_of_some_means bs k = any_means (is_end_means k) bs

pub ends_stand_means : (bs : List Band) (ns : List Node) → Means (ends_stand bs ns) (Each (λ b. NodeAt b.low ns × NodeAt b.high ns) bs)
unfolding ends_stand
ends_stand_means bs ns = all_means (λ b. and_means (stands_at_means b.low ns) (stands_at_means b.high ns)) bs

pub only_ends_stand_means : (bs : List Band) (ns : List Node) → Means (only_ends_stand bs ns) (Each (λ n. Some (EndOf n.key) bs) ns)
unfolding only_ends_stand
only_ends_stand_means bs ns = all_means (λ n. is_end_of_some_means bs n.key) ns

-- ---- what is so of nodes in key order

-- nodes ascend strictly by key, the first at least c
abbrev pub Asc : ℕ → List Node → Type 0
Asc = Ascends (λ n. n.key)

-- a lane's keys ascend as the nodes do
pub lane_ascends : (i c : ℕ) (ns : List Node) → Asc c ns → Ascends (λ k. k) c (lane_of i ns)
lane_ascends i c [] a = tt
lane_ascends i c (n ∷ ns) a = go (takes_part i n) (lane_ascends i (suc n.key) ns a.1)
  where
    go : (t : Bool) → Ascends (λ k. k) (suc n.key) (lane_of i ns) → Ascends (λ k. k) c (add_if t n.key (lane_of i ns))
    go true b = (a.0, b)
    go false b = ascends_lower (λ k. k) c (suc n.key) (lane_of i ns) (omega arith) b

-- the edge joins two keys of the list, the lower first, that are next to each other
pub record Joins (e : Edge) (ks : List ℕ) : Type 0 where
  pub from_in : In e.from ks
  pub to_in : In e.to ks
  pub upward : e.from < e.to
  pub none_between : Each (λ k. (k ≤ e.from) ⊎ (e.to ≤ k)) ks

module _ (e : Edge) (x y : ℕ) (ys : List ℕ) (a : Ascends (λ k. k) (suc x) (y ∷ ys)) where
  joins_first : Joins (edge_of x y) (x ∷ y ∷ ys)
  joins_first =
      record {
        from_in = inl refl;
        to_in = inr (inl refl);
        upward = a.0;
        none_between =
            (each_cons x (y ∷ ys)).1
            (inl (omega arith), (each_cons y ys).1 (inr (omega arith), λ k i. inr (omega (arith, ascends_from (λ k. k) (suc y) ys a.1 k i))));
      }

  joins_later : Joins e (y ∷ ys) → Joins e (x ∷ y ∷ ys)
  joins_later j =
      record {
        from_in = inr j.from_in;
        to_in = inr j.to_in;
        upward = j.upward;
        none_between =
            (each_cons x (y ∷ ys)).1
            (inl (omega (arith, ascends_from (λ k. k) (suc x) (y ∷ ys) a e.from j.from_in)), j.none_between);
      }

  first_or_later : Joins e (x ∷ y ∷ ys) → (e ≡ edge_of x y) ⊎ Joins e (y ∷ ys)
  first_or_later j = go j.from_in j.to_in
    where
      go : In e.from (x ∷ y ∷ ys) → In e.to (x ∷ y ∷ ys) → (e ≡ edge_of x y) ⊎ Joins e (y ∷ ys)
      go (inl p) (inl q) = absurd (omega arith)
      go (inl p) (inr (inl q)) = inl (λ i. edge_of (p i) (q i))
      go (inl p) (inr (inr t)) =
          let u = ascends_from (λ k. k) (suc y) ys a.1 e.to t in
          ⊎_elim (λ l. absurd (omega arith)) (λ l. absurd (omega arith)) (j.none_between y (inr (inl refl)))
      go (inr f) (inl q) = absurd (omega (arith, ascends_from (λ k. k) (suc x) (y ∷ ys) a e.from f))
      go (inr f) (inr t) = inr (record { from_in = f; to_in = t; upward = j.upward; none_between = λ k i. j.none_between k (inr i) })

edges_join : (e : Edge) (x : ℕ) (ks : List ℕ) → Ascends (λ k. k) (suc x) ks → In e (edges_from x ks) ↔ Joins e (x ∷ ks)
edges_join e x [] a = (λ i. absurd i, λ j. go j.from_in j.to_in j.upward)
  where
    go : In e.from (x ∷ []) → In e.to (x ∷ []) → e.from < e.to → ⊥
    go (inl p) (inl q) u = omega arith
    go (inl p) (inr t) u = t
    go (inr f) t u = f
edges_join e x (y ∷ ys) a = (
  ⊎_elim (λ p. subst (λ f. Joins f (x ∷ y ∷ ys)) (sym p) (joins_first e x y ys a)) (λ i. joins_later e x y ys a ((edges_join e y ys a.1).0 i)),
  λ j. ⊎_map (λ p. p) (edges_join e y ys a.1).1 (first_or_later e x y ys a j),
)

edges_along_join : (c : ℕ) (e : Edge) (ks : List ℕ) → Ascends (λ k. k) c ks → In e (edges_along ks) ↔ Joins e ks
edges_along_join c e [] a = (λ i. absurd i, λ j. j.from_in)
edges_along_join c e (k ∷ ks) a = edges_join e k ks a.1

-- an edge of a lane joins two nodes next to each other in that lane
pub edge_rule : (i c : ℕ) (e : Edge) (ns : List Node) → Asc c ns → In e (edges_in i ns) ↔ Joins e (lane_of i ns)
edge_rule i c e ns a = edges_along_join c e (lane_of i ns) (lane_ascends i c ns a)

edges_from_ascend : (x : ℕ) (ks : List ℕ) → Ascends (λ k. k) (suc x) ks → Ascends (λ e. e.from) x (edges_from x ks)
edges_from_ascend x [] a = tt
edges_from_ascend x (y ∷ ys) a = (omega arith, ascends_lower (λ e. e.from) (suc x) y (edges_from y ys) a.0 (edges_from_ascend y ys a.1))

edges_along_ascend : (c : ℕ) (ks : List ℕ) → Ascends (λ k. k) c ks → Ascends (λ e. e.from) c (edges_along ks)
edges_along_ascend c [] a = tt
edges_along_ascend c (k ∷ ks) a = ascends_lower (λ e. e.from) c k (edges_from k ks) a.0 (edges_from_ascend k ks a.1)

-- a lane's edges ascend by the key they leave from
pub edges_ascend : (i c : ℕ) (ns : List Node) → Asc c ns → Ascends (λ e. e.from) c (edges_in i ns)
edges_ascend i c ns a = edges_along_ascend c (lane_of i ns) (lane_ascends i c ns a)

-- the level of the node at a key ..
pub level_there : (c : ℕ) (ns : List Node) → Asc c ns → Each (λ n. level_at n.key ns ≡ n.level) ns
level_there c [] a n i = absurd i
level_there c (m ∷ ms) a n (inl p) = rw (eq-eqb m.key n.key (ap (λ z. z.key) (sym p))) (ap (λ z. z.level) (sym p))
level_there c (m ∷ ms) a n (inr i) =
    let l = ascends_from (λ z. z.key) (suc m.key) ms a.1 n i in
    rw (ne_eqb m.key n.key (λ e. omega arith)) (level_there (suc m.key) ms a.1 n i)

pub level_at_place : (c j : ℕ) (ns : List Node) → Asc c ns → (n : Node) (rest : List Node) → drop j ns ≡ n ∷ rest → level_at n.key ns ≡ n.level
level_at_place c j ns a n rest at = level_there c ns a n (in_at_place j ns at)

-- .. and 0 where none stands
pub level_nowhere : (k : ℕ) (ns : List Node) → Each (λ n. n.key ≡ k → ⊥) ns → level_at k ns ≡ 0
level_nowhere k [] h = refl
level_nowhere k (n ∷ ns) h = rw (ne_eqb n.key k (h n (inl refl))) (level_nowhere k ns (λ m i. h m (inr i)))

-- there is no such lane at a key exactly when no node stands there or the one that does has no such lane
pub no_lane_rule : (k i c : ℕ) (ns : List Node) → Asc c ns
    → (NoNodeAt k ns ⊎ (level_at k ns ≤ i)) ↔ (NoNodeAt k ns ⊎ Some (λ n. (n.key ≡ k) × (n.level ≤ i)) ns)
no_lane_rule k i c ns a = (
  ⊎_elim inl (λ l. ⊎_elim (λ s. inr (s.0, s.1, (s.2, rw (level_at_lem s.0 s.1 s.2) at l))) inl (node_or_none k ns)),
  ⊎_map (λ h. h) (λ s. rw (level_at_lem s.0 s.1 s.2.0) s.2.1),
)
  where
    level_at_lem : (n : Node) → In n ns → n.key ≡ k → level_at k ns ≡ n.level
    level_at_lem n j e = rw (← e) (level_there c ns a n j)

-- ---- a node made at a key

module _ (k l : ℕ) (ns : List Node) where
  -- where a node stands nothing is made ..
  pub nothing_made : NodeAt k ns → with_node k l ns ≡ ns
  unfolding with_node
  nothing_made s = rw ((stands_at_means k ns).test s)

  -- .. and where none stands the node made is placed among the others
  pub node_placed : NoNodeAt k ns → with_node k l ns ≡ placed (λ n. n.key) (node_of k l) ns
  unfolding with_node
  node_placed h = rw ((denied (stands_at_means k ns)).test (λ s. h s.0 s.1 s.2))

  -- a node that stood, or the made one exactly when none stood at the key
  pub in_with_node : (n : Node) → In n (with_node k l ns) ↔ (In n ns ⊎ ((n ≡ node_of k l) × NoNodeAt k ns))
  in_with_node n =
      ⊎_elim
      (λ s. rw (nothing_made s) (inl, ⊎_elim (λ i. i) (λ h. absurd (h.1 s.0 s.1 s.2))))
      (λ h. rw (node_placed h)
      (Iff.trans (in_placed (λ m. m.key) (node_of k l) n ns) (⊎_elim (λ e. inr (e, h)) inl, ⊎_elim inr (λ m. inl m.0))))
      (node_or_none k ns)

  -- afterwards a node stands at the key and wherever one stood
  pub at_with_node : (j : ℕ) → NodeAt j (with_node k l ns) ↔ ((j ≡ k) ⊎ NodeAt j ns)
  at_with_node j = (from, ⊎_elim there still)
    where
      from : NodeAt j (with_node k l ns) → (j ≡ k) ⊎ NodeAt j ns
      from s = ⊎_elim (λ i. inr (s.0, i, s.2)) (λ m. inl (sym s.2 ∙ ap (λ n. n.key) m.0)) ((in_with_node s.0).0 s.1)

      still : NodeAt j ns → NodeAt j (with_node k l ns)
      still s = (s.0, (in_with_node s.0).1 (inl s.1), s.2)

      there : j ≡ k → NodeAt j (with_node k l ns)
      there e =
          ⊎_elim
          (λ s. still (s.0, s.1, s.2 ∙ sym e))
          (λ h. (node_of k l, (in_with_node (node_of k l)).1 (inr (refl, h)), sym e))
          (node_or_none k ns)

  pub stands_with_node : (j : ℕ) → Means (stands_at j (with_node k l ns)) ((j ≡ k) ⊎ NodeAt j ns)
  stands_with_node j = reworded (stands_at_means j (with_node k l ns)) (at_with_node j).0 (at_with_node j).1

  module _ (a : Asc 0 ns) where
    pub with_node_ascends : Asc 0 (with_node k l ns)
    with_node_ascends =
        ⊎_elim
        (λ s. rw (nothing_made s) a)
        (λ h. rw (node_placed h) (placed_ascends (λ n. n.key) (node_of k l) 0 ns (omega arith) h a))
        (node_or_none k ns)

    -- a node that stood stays with its level ..
    pub level_stays : Each (λ n. level_at n.key (with_node k l ns) ≡ n.level) ns
    level_stays n i = level_there 0 (with_node k l ns) with_node_ascends n ((in_with_node n).1 (inl i))

    -- .. and a made one has the level given
    pub level_given : NoNodeAt k ns → level_at k (with_node k l ns) ≡ l
    level_given h = level_there 0 (with_node k l ns) with_node_ascends (node_of k l) ((in_with_node (node_of k l)).1 (inr (refl, h)))

-- a node below the key stays before it
pub made_after : (k l : ℕ) (n : Node) (ns : List Node) → n.key < k → with_node k l (n ∷ ns) ≡ n ∷ with_node k l ns
unfolding with_node stands_at ◌or◌
made_after k l n ns h = rw (ne_eqb n.key k (λ e. omega arith), le-ltb k n.key (omega arith)) (go (stands_at k ns))
  where
    go : (t : Bool) → cond t (n ∷ ns) (n ∷ placed (λ m. m.key) (node_of k l) ns) ≡ n ∷ cond t ns (placed (λ m. m.key) (node_of k l) ns)
    go true = refl
    go false = refl

-- before nodes that are all above the key the node made comes first
pub made_first : (k l : ℕ) (ns : List Node) → Asc (suc k) ns → with_node k l ns ≡ node_of k l ∷ ns
made_first k l ns a =
    node_placed k l ns (λ n i e. omega (arith, ascends_from (λ m. m.key) (suc k) ns a n i)) ∙ placed_first (λ m. m.key) (node_of k l) ns a

-- a node made at a key is at most one more
pub with_node_length : (k l : ℕ) (ns : List Node) → length (with_node k l ns) ≤ suc (length ns)
unfolding with_node
with_node_length k l ns = go (stands_at k ns)
  where
    go : (t : Bool) → length (cond t ns (placed (λ n. n.key) (node_of k l) ns)) ≤ suc (length ns)
    go true = omega arith
    go false = omega (arith, length_placed (λ n. n.key) (node_of k l) ns)

-- one node is on no edge
pub no_edge : (n : Node) (i : ℕ) → edges_in i (n ∷ []) ≡ []
no_edge n i = go (takes_part i n)
  where
    go : (t : Bool) → edges_along (add_if t n.key []) ≡ []
    go true = refl
    go false = refl

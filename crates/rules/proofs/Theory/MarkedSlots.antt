-- The slots that the rule marks for one band, listed node by node, are the rule's marks: in ascending order, so each once; as many as the
-- band's marks; and a slot is listed exactly when the rule marks the node or the edge that it stands for.
-- Assumes nothing.
use Prim.Native.Nat.{ℕ, zero, suc, ◌+◌, ◌≤◌, ◌<◌}
use mathlib.Core.Path.{◌≡◌, refl, sym, subst}
use mathlib.Core.Bool.{Bool, true, false}
use mathlib.Core.Logic.Iff
use mathlib.Core.Logic.{◌↔◌, ◌⊎◌, ⊎_map}
use mathlib.Core.List.{List, [], ◌∷◌, ◌++◌}
use mathlib.Core.Option.{some}
use native.Mathlib.Omega.{arith}
use lib.ListN.{length, drop, length-append}
use Rattle.rules.specs.Connectives.{◌and◌, one_if}
use Rattle.rules.specs.Lists.{add_if, first_of, count_if, sum_lanes}
use Rattle.rules.specs.HallLine.{Band}
use Rattle.rules.specs.NodesLanesEdges.{Node, Edge, edge_of, lanes, takes_part, lane_of, edges_along, edges_in}
use Rattle.rules.specs.Marks.{edge_marked, node_marked, edge_marks_in, marks_of}
use Rattle.rules.specs.Staircase.{slot_number, link_marked, out_marked, marked_links, marked_slots_from, marked_slots}
use Rattle.rules.proofs.Means.{Means, reworded, itself, and_means}
use Rattle.rules.proofs.Lists.{In, Some, Ascends, ascends_lower, in_add_if, in_append, SomeLane, some_lane_up, at_some_place, place_within}
use Rattle.rules.proofs.NodesLanesEdges.{Asc, takes_part_means}
use Rattle.rules.proofs.Theory.Links.{first_link_means}
use Rattle.rules.proofs.Theory.EdgesOut.{LeadsOut, edge_out_of, edge_once}

-- ---- ascending

-- a number put first where a test holds, before a list that ascends from above it
ascends_first : (t : Bool) (x d : ℕ) (xs ys : List ℕ) → x < d → Ascends (λ s. s) d (xs ++ ys) → Ascends (λ s. s) x (add_if t x xs ++ ys)
ascends_first true x d xs ys l a = (omega arith, ascends_lower (λ s. s) (suc x) d (xs ++ ys) l a)
ascends_first false x d xs ys l a = ascends_lower (λ s. s) x d (xs ++ ys) (omega arith) a

module _ (ns : List Node) (b : Band) where
  links_ascend : (j : ℕ) (n : Node) (rest : List Node) (ys : List ℕ) (d i m : ℕ) → slot_number j (suc (i + m)) ≤ d → Ascends (λ s. s) d ys
      → Ascends (λ s. s) (slot_number j (suc i)) (marked_links ns b j n rest i m ++ ys)
  unfolding slot_number
  links_ascend j n rest ys d i zero l a = ascends_lower (λ s. s) (slot_number j (suc i)) d ys (omega arith) a
  links_ascend j n rest ys d i (suc m) l a =
      ascends_first (out_marked ns b n rest i) (slot_number j (suc i)) (slot_number j (suc (suc i))) (marked_links ns b j n rest (suc i) m) ys
      (omega arith) (links_ascend j n rest ys d (suc i) m (omega arith) a)

  slots_ascend_from : (j : ℕ) (ms : List Node) → Ascends (λ s. s) (slot_number j 0) (marked_slots_from ns b j ms)
  unfolding slot_number
  slots_ascend_from j [] = tt
  slots_ascend_from j (n ∷ rest) =
      let further : List ℕ = marked_slots_from ns b (suc j) rest in
      ascends_first (node_marked ns b n.key) (slot_number j 0) (slot_number j 1) (marked_links ns b j n rest 0 lanes) further (omega arith)
      (links_ascend j n rest further (slot_number (suc j) 0) 0 lanes (omega arith) (slots_ascend_from (suc j) rest))

  -- the marked slots ascend strictly, so each stands once
  pub slots_ascend : Ascends (λ s. s) 0 (marked_slots ns b)
  unfolding marked_slots slot_number
  slots_ascend = slots_ascend_from 0 ns

-- ---- as many as the marks

length_add : (t : Bool) (x : ℕ) (xs : List ℕ) → length (add_if t x xs) ≡ one_if t + length xs
length_add true x xs = omega arith
length_add false x xs = omega arith

module _ (ns : List Node) (b : Band) where
  -- how many edges of lane l among these nodes bear the band's mark
  abbrev edge_marks_among : List Node → ℕ → ℕ
  edge_marks_among ms l = count_if (edge_marked ns b l) (edges_in l ms)

  -- with one node more before it, a lane's marked edges are the edge out of that node, if the rule marks it, and those there were
  first_edge : (i x : ℕ) (t : Bool) (ks : List ℕ)
      → count_if (edge_marked ns b i) (edges_along (add_if t x ks))
      ≡ one_if (t and link_marked ns b i x ks) + count_if (edge_marked ns b i) (edges_along ks)
  unfolding ◌and◌ link_marked
  first_edge i x true [] = refl
  first_edge i x true (y ∷ ys) = refl
  first_edge i x false ks = omega arith

  link_count : (j : ℕ) (n : Node) (rest : List Node) (i m : ℕ)
      → sum_lanes (edge_marks_among (n ∷ rest)) i m ≡ length (marked_links ns b j n rest i m) + sum_lanes (edge_marks_among rest) i m
  link_count j n rest i zero = refl
  link_count j n rest i (suc m) =
      omega (
        arith,
        first_edge i n.key (takes_part i n) (lane_of i rest),
        length_add (out_marked ns b n rest i) (slot_number j (suc i)) (marked_links ns b j n rest (suc i) m),
        link_count j n rest (suc i) m,
      )

  slot_count_from : (j : ℕ) (ms : List Node)
      → length (marked_slots_from ns b j ms) ≡ sum_lanes (edge_marks_among ms) 0 lanes + count_if (λ n. node_marked ns b n.key) ms
  slot_count_from j [] = refl
  slot_count_from j (n ∷ rest) =
      let links : List ℕ = marked_links ns b j n rest 0 lanes in
      omega (
        arith,
        length-append (add_if (node_marked ns b n.key) (slot_number j 0) links) (marked_slots_from ns b (suc j) rest),
        length_add (node_marked ns b n.key) (slot_number j 0) links,
        link_count j n rest 0 lanes,
        slot_count_from (suc j) rest,
      )

  -- the marked slots are as many as the band's marks
  pub slot_count : length (marked_slots ns b) ≡ marks_of ns b
  unfolding marked_slots marks_of edge_marks_in
  slot_count = slot_count_from 0 ns

-- ---- a slot is listed exactly when the rule marks what it stands for

-- the rule marks slot t of the first of these nodes: slot 0 for the node itself, slot 1 + i for its edge in lane i
abbrev pub SlotMarked : List Node → Band → List Node → ℕ → Type 0
SlotMarked ns b [] t = ⊥
SlotMarked ns b (n ∷ rest) zero = node_marked ns b n.key ≡ true
SlotMarked ns b (n ∷ rest) (suc i) =
    (i < n.level) × (y : ℕ) × (first_of (lane_of i rest) ≡ some y) × (edge_marked ns b i (edge_of n.key y) ≡ true)

-- no two slots have the same number
pub slots_apart : (j k t u : ℕ) → t ≤ lanes → u ≤ lanes → slot_number j t ≡ slot_number k u → (j ≡ k) × (t ≡ u)
unfolding slot_number
slots_apart j k t u l m e = (omega arith, omega arith)

module _ (ns : List Node) (b : Band) where
  pub out_means : (i : ℕ) (n : Node) (rest : List Node) → Means (out_marked ns b n rest i) (SlotMarked ns b (n ∷ rest) (suc i))
  out_means i n rest =
      reworded (and_means (takes_part_means i n) (first_link_means ns b i n.key (lane_of i rest)))
      (λ h. (h.0, h.1.0, h.1.1, h.1.2)) (λ h. (h.0, (h.1, h.2, h.3)))

  -- of the m slots from slot t up of the first of these nodes, with j before it, some is marked and has number s; slots count as lanes do
  abbrev Numbers : ℕ → ℕ → List Node → ℕ → ℕ → Type 0
  Numbers s j ms = SomeLane (λ t. SlotMarked ns b ms t × (s ≡ slot_number j t))

  first_slot : (s j t m : ℕ) (ms : List Node) (f : Bool) (xs : List ℕ) → Means f (SlotMarked ns b ms t) → In s xs ↔ Numbers s j ms (suc t) m
      → In s (add_if f (slot_number j t) xs) ↔ Numbers s j ms t (suc m)
  first_slot s j t m ms f xs μ e = (
    λ h. (some_lane_up t m).1 (⊎_map (λ p. (μ.fact p.0, p.1)) e.0 ((in_add_if f (slot_number j t) s xs).0 h)),
    λ h. (in_add_if f (slot_number j t) s xs).1 (⊎_map (λ p. (μ.test p.0, p.1)) e.1 ((some_lane_up t m).0 h)),
  )

  in_links : (s j : ℕ) (n : Node) (rest : List Node) (i m : ℕ) → In s (marked_links ns b j n rest i m) ↔ Numbers s j (n ∷ rest) (suc i) m
  in_links s j n rest i zero = (λ h. absurd h, λ h. absurd (omega arith))
  in_links s j n rest i (suc m) =
      first_slot s j (suc i) m (n ∷ rest) (out_marked ns b n rest i) _ (out_means i n rest) (in_links s j n rest (suc i) m)

  -- the slots listed are the marked slots of the places
  in_slots_lem : (s : ℕ) → In s (marked_slots ns b) ↔ ((j : ℕ) × Numbers s j (drop j ns) 0 (suc lanes))
  unfolding marked_slots
  in_slots_lem s =
      at_some_place (λ j ms. In s (marked_slots_from ns b j ms)) (λ j ms. Numbers s j ms 0 (suc lanes))
      (λ j h. h) (λ j h. h.3.0) node_first ns
    where
      node_first : (j : ℕ) (n : Node) (rest : List Node)
          → In s (marked_slots_from ns b j (n ∷ rest)) ↔ (Numbers s j (n ∷ rest) 0 (suc lanes) ⊎ In s (marked_slots_from ns b (suc j) rest))
      node_first j n rest =
          let links : List ℕ = marked_links ns b j n rest 0 lanes in
          let t : Bool = node_marked ns b n.key in
          let e = first_slot s j 0 lanes (n ∷ rest) t links (itself t) (in_links s j n rest 0 lanes) in
          let a = in_append s (add_if t (slot_number j 0) links) (marked_slots_from ns b (suc j) rest) in
          (λ h. ⊎_map e.0 (λ l. l) (a.0 h), λ h. a.1 (⊎_map e.1 (λ l. l) h))

  -- slot t of the node that has j others before it is listed exactly when the rule marks it
  pub slot_rule : (j t : ℕ) → t ≤ lanes → In (slot_number j t) (marked_slots ns b) ↔ SlotMarked ns b (drop j ns) t
  slot_rule j t l = (
    λ h. let s = (in_slots_lem (slot_number j t)).0 h in
        let p = slots_apart j s.0 t s.1.0 l (omega arith) s.1.3.1 in
        subst (SlotMarked ns b (drop j ns)) (sym p.1) (subst (λ k. SlotMarked ns b (drop k ns) s.1.0) (sym p.0) s.1.3.0),
    λ h. (in_slots_lem (slot_number j t)).1 (j, (t, omega arith, omega arith, (h, refl))),
  )

  -- each number listed is that of a slot of some node
  pub every_slot : (s : ℕ) → In s (marked_slots ns b) → (j : ℕ) × (t : ℕ) × (j < length ns) × (t ≤ lanes) × (s ≡ slot_number j t)
  every_slot s h =
      let q = (in_slots_lem s).0 h in
      (q.0, q.1.0, place_below q.0 q.1.0 (drop q.0 ns) refl q.1.3.0, omega arith, q.1.3.1)
    where
      place_below : (j t : ℕ) (ms : List Node) → drop j ns ≡ ms → SlotMarked ns b ms t → j < length ns
      place_below j t [] e m = absurd m
      place_below j t (n ∷ rest) e m = place_within j ns e

  module _ (j : ℕ) (n : Node) (rest : List Node) (at : drop j ns ≡ n ∷ rest) where
    -- a node's slot is listed exactly when the rule marks the node
    pub node_slot : In (slot_number j 0) (marked_slots ns b) ↔ (node_marked ns b n.key ≡ true)
    node_slot = subst (λ ms. In (slot_number j 0) (marked_slots ns b) ↔ SlotMarked ns b ms 0) at (slot_rule j 0 (omega arith))

    -- .. and the slot of its edge in lane i exactly when it takes part, a node follows in the lane, and the rule marks the edge to that node
    pub edge_slot : (i : ℕ) → i < lanes → In (slot_number j (suc i)) (marked_slots ns b)
        ↔ ((i < n.level) × (y : ℕ) × (first_of (lane_of i rest) ≡ some y) × (edge_marked ns b i (edge_of n.key y) ≡ true))
    edge_slot i l = subst (λ ms. In (slot_number j (suc i)) (marked_slots ns b) ↔ SlotMarked ns b ms (suc i)) at (slot_rule j (suc i) l)

module _ (ns : List Node) (b : Band) (i : ℕ) where
  out_marked_lem : (e : Edge) (ms : List Node) → LeadsOut i ms e → SlotMarked ns b ms (suc i) ↔ (edge_marked ns b i e ≡ true)
  out_marked_lem e [] o = absurd o
  out_marked_lem e (n ∷ rest) o = (
    λ s. let p : s.1 ≡ e.to = cc in subst (λ f. edge_marked ns b i f ≡ true) (λ t. edge_of (o.1 t) (p t)) s.3,
    λ h. (o.0, e.to, o.2, subst (λ x. edge_marked ns b i (edge_of x e.to) ≡ true) (sym o.1) h),
  )

  marked_out : (ms : List Node) → SlotMarked ns b ms (suc i) → (e : Edge) × LeadsOut i ms e × (edge_marked ns b i e ≡ true)
  marked_out [] s = absurd s
  marked_out (n ∷ rest) s = (edge_of n.key s.1, (s.0, refl, s.2), s.3)

  module _ (j : ℕ) (l : i < lanes) where
    -- the slot of the edge that leads out of a node is listed exactly when the rule marks the edge ..
    pub out_slot : (e : Edge) → LeadsOut i (drop j ns) e → In (slot_number j (suc i)) (marked_slots ns b) ↔ (edge_marked ns b i e ≡ true)
    out_slot e o = Iff.trans (slot_rule ns b j (suc i) l) (out_marked_lem e (drop j ns) o)

    -- .. and an edge slot that is listed is that of a marked edge of the lane
    pub slot_edge : In (slot_number j (suc i)) (marked_slots ns b)
        → Some (λ e. LeadsOut i (drop j ns) e × (edge_marked ns b i e ≡ true)) (edges_in i ns)
    slot_edge h =
        let s = marked_out (drop j ns) ((slot_rule ns b j (suc i) l).0 h) in (s.0, (edge_out_of i s.0 ns).1 (j, s.1), (s.1, s.2))

module _ (c : ℕ) (ns : List Node) (a : Asc c ns) (i : ℕ) where
  -- each marked edge has exactly one slot listed: that of the one node that it leads out of
  pub marked_edge_slot : (b : Band) (e : Edge) → i < lanes → In e (edges_in i ns) → edge_marked ns b i e ≡ true
      → (j : ℕ) × LeadsOut i (drop j ns) e × In (slot_number j (suc i)) (marked_slots ns b) × ((k : ℕ) → LeadsOut i (drop k ns) e → k ≡ j)
  marked_edge_slot b e l h m =
      let s = (edge_out_of i e ns).0 h in (s.0, s.1, (out_slot ns b i s.0 l e s.1).1 m, λ k o. edge_once c ns a i e k s.0 o s.1)

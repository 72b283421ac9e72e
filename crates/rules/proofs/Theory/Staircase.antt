-- The staircase: walking from the low end to the high end, always by the highest edge that stays inside the band, visits exactly the slots
-- that the rule marks, in their order: the marked nodes and edges, each once. So its count is the band's number of marks.
-- Assumes nothing.
use Prim.Native.Nat.{ℕ, suc, ◌≤◌, ◌<◌}
use mathlib.Core.Path.{◌≡◌, refl, sym, ◌∙◌, ap, subst}
use mathlib.Core.Bool.{Bool, true, false, cond}
use mathlib.Core.Logic.{◌↔◌, ◌⊎◌, inl, inr}
use mathlib.Core.List.{List, [], ◌∷◌, ◌++◌}
use mathlib.Core.Option.{Option, none, some}
use native.Mathlib.Omega.{arith}
use lib.Dec.{ltb}
use lib.ListN.{length, drop}
use borrow.Author.Tests.{ltb-true, ltb-false}
use Rattle.rules.specs.Lists.{add_if, sum_of}
use Rattle.rules.specs.HallLine.{Band, holds}
use Rattle.rules.specs.NodesLanesEdges.{Node, Edge, edge_of, lanes, edges_in}
use Rattle.rules.specs.Profile.{Profile}
use Rattle.rules.specs.Marks.{edge_marked, node_marked, marks_of, marks_in_use}
use Rattle.rules.specs.Staircase.{slot_number, marked_links, marked_slots_from, marked_slots, Stair, highest_stair, along, walk_from, walk}
use Rattle.rules.proofs.Means.{denied}
use Rattle.rules.proofs.Lists.{In, Each, some_cons, Ascends}
use Rattle.rules.proofs.NodesLanesEdges.{Asc, Level, NodeAt, in_lane}
use Rattle.rules.proofs.Theory.EdgesNest.{joins}
use Rattle.rules.proofs.Theory.Stops.{Stop, Bare, IsStair, low_is_stop, stop_mark, beyond_unmarked, outside_bare, at_high, stair_marked, none_beside, passed_bare, stair_to_stop}
use Rattle.rules.proofs.SoundMemory.{Standing}
use Rattle.rules.proofs.Sums.{sum_same}
use Rattle.rules.proofs.Theory.EdgesOut.{LeadsOut, Ahead, all_ahead, node_ahead, rest_ahead, lane_ahead}
use Rattle.rules.proofs.Theory.Links.{link_means, link_bare, no_links, one_link}
use Rattle.rules.proofs.Theory.HighestStair.{Found, stair_found}
use Rattle.rules.proofs.Theory.MarkedSlots.{SlotMarked, slot_rule, node_slot, every_slot, slots_ascend, slot_count, out_slot}

-- ---- the highest stair is the one marked link

module _ (b : Band) {ns : List Node} {c : ℕ} {n : Node} {rest : List Node} (f : Ahead ns c (n ∷ rest)) (a : Asc 0 ns) where
  -- where nothing is marked at the node, none of its slots is
  bare_slots : (j : ℕ) → Bare ns b n.key → marked_slots_from ns b j (n ∷ rest) ≡ marked_slots_from ns b (suc j) rest
  bare_slots j h = rw (h.node_bare, no_links ns b j n rest 0 lanes (λ k u v. link_bare b f a k (h.edges_bare k v)))

  module _ (stop : Stop ns b n.key) (l : b.low ≤ n.key) where
    -- what is found at a stop is a stair ..
    is_stair : (s : Stair) → Found ns b n.key lanes (some s) → IsStair ns b s.lane (edge_of n.key s.to)
    is_stair s g = record { is_lane = g.0; is_edge = g.1; is_inside = (l, g.2); from_stop = stop; highest = g.3 }

    -- .. and the one marked link
    links_at_stop : (j : ℕ) (o : Option Stair) → Found ns b n.key lanes o → marked_links ns b j n rest 0 lanes ≡ along j o (λ y. [])
    links_at_stop j none g =
        no_links ns b j n rest 0 lanes (λ k u v. link_bare b f a k (λ y m. beyond_unmarked ns b k (edge_of n.key y) (g k u v y m)))
    links_at_stop j (some s) g =
        one_link ns b j n rest s.lane 0 lanes (omega arith) g.0
        ((link_means b f a s.lane).test (s.to, g.1, stair_marked a (is_stair s g)))
        (λ k u v off. (denied (link_means b f a k)).test (λ t. off (alone k v t.0 t.1 t.2)))
      where
        up : (i y : ℕ) → In (edge_of n.key y) (edges_in i ns) → n.key < y
        up i y m = (joins 0 ns a i (edge_of n.key y) m).upward

        alone : (k : ℕ) → k < lanes → (y : ℕ) → In (edge_of n.key y) (edges_in k ns) → edge_marked ns b k (edge_of n.key y) ≡ true
            → k ≡ s.lane
        alone k v y m = none_beside a (is_stair s g) k (edge_of n.key y) v m (up s.lane s.to g.1) (up k y m)

-- ---- the walk

pub add_append : {A : Type 0} (t : Bool) (x : A) (xs ys : List A) → add_if t x xs ++ ys ≡ add_if t x (xs ++ ys)
add_append true x xs ys = refl
add_append false x xs ys = refl

module _ (ns : List Node) (b : Band) (a : Asc 0 ns) where
  -- no slot is marked of nodes beyond the high end
  none_after : (c j : ℕ) (ms : List Node) → Ahead ns c ms → b.high < c → marked_slots_from ns b j ms ≡ []
  none_after c j [] f l = refl
  none_after c j (n ∷ rest) f l =
      bare_slots b f a j (outside_bare ns b a n.key (inr (omega (arith, f.ascend.0))))
      ∙ none_after (suc n.key) (suc j) rest (rest_ahead f) (omega (arith, f.ascend.0))

  -- from stop x the walk over the nodes ms, with j others before them, visits what is marked of them, if nothing before x is
  abbrev VisitsMarked : ℕ → List Node → ℕ → Type 0
  VisitsMarked j ms x =
      Stop ns b x → b.low ≤ x → NodeAt x ms → Each (λ m. m.key < x → Bare ns b m.key) ms
      → walk_from b x j ms ≡ marked_slots_from ns b j ms

  module _ (levels : Each (λ n. Level n.level) ns) (top : NodeAt b.high ns) where
    module _ (c j : ℕ) (n : Node) (rest : List Node) (f : Ahead ns c (n ∷ rest)) (on : (y : ℕ) → VisitsMarked (suc j) rest y) where
      -- the walk at a stop: the node, and on by the stair
      abbrev walk_here : Option Stair → List ℕ
      walk_here o = add_if (holds b n.key) (slot_number j 0) (along j o (λ y. walk_from b y (suc j) rest))

      module _ (stop : Stop ns b n.key) (l : b.low ≤ n.key) where
        marked_onward : (o : Option Stair) → Found ns b n.key lanes o
            → along j o (λ y. walk_from b y (suc j) rest) ≡ along j o (λ y. []) ++ marked_slots_from ns b (suc j) rest
        marked_onward none g =
            let h = at_high ns b a levels top n (node_ahead f) (λ i u. g i (omega arith) u) in
            sym (none_after (suc n.key) (suc j) rest (rest_ahead f) (omega arith))
        marked_onward (some s) g =
            let stair = is_stair b f a stop l s g in
            let join = joins 0 ns a s.lane (edge_of n.key s.to) g.1 in
            let there = (in_lane s.lane s.to rest).0 ((lane_ahead f s.lane s.to).1 (join.to_in, join.upward)) in
            ap (◌∷◌ (slot_number j (suc s.lane)))
            (on s.to (stair_to_stop a stair) (omega (arith, join.upward)) (there.0, there.1, there.2.1)
            (λ m i u. passed_bare a stair m.key ((((rest_ahead f).those m).0 i).1, u)))

        marked_here : (o : Option Stair) → Found ns b n.key lanes o → walk_here o ≡ marked_slots_from ns b j (n ∷ rest)
        marked_here o g =
            rw (stop_mark ns b n.key stop, links_at_stop b f a stop l j o g, add_append)
            (ap (add_if (holds b n.key) (slot_number j 0)) (marked_onward o g))

      visits_here : (x : ℕ) → VisitsMarked j (n ∷ rest) x
      visits_here x stop l at bare = go (ltb n.key x) refl ((some_cons n rest).0 at)
        where
          go : (t : Bool) → ltb n.key x ≡ t → (n.key ≡ x) ⊎ NodeAt x rest
              → cond t (walk_from b x (suc j) rest) (walk_here (highest_stair b.high n rest lanes)) ≡ marked_slots_from ns b j (n ∷ rest)
          go true e (inl p) = absurd (omega (arith, ltb-true n.key x e))
          go true e (inr s) =
              on x stop l s (λ m i. bare m (inr i)) ∙ sym (bare_slots b f a j (bare n (inl refl) (ltb-true n.key x e)))
          go false e (inl p) =
              marked_here (subst (Stop ns b) (sym p) stop) (omega arith) (highest_stair b.high n rest lanes) (stair_found b f a lanes)
          go false e (inr s) = absurd (omega (arith, ltb-false n.key x e, s.2, (((rest_ahead f).those s.0).0 s.1).1))

    visits_marked : (c j : ℕ) (ms : List Node) → Ahead ns c ms → (x : ℕ) → VisitsMarked j ms x
    visits_marked c j [] f = λ x stop l at bare. refl
    visits_marked c j (n ∷ rest) f = visits_here c j n rest f (visits_marked (suc n.key) (suc j) rest (rest_ahead f))

-- ---- what the walk visits

module _ (ns : List Node) (b : Band) (a : Asc 0 ns) (levels : Each (λ n. Level n.level) ns)
    (bottom : NodeAt b.low ns) (top : NodeAt b.high ns) where
  -- the walk visits exactly the slots that the rule marks, in their order
  pub walk_slots : walk ns b ≡ marked_slots ns b
  unfolding walk marked_slots
  walk_slots =
      visits_marked ns b a levels top 0 0 ns (all_ahead ns a) b.low (low_is_stop ns b) (omega arith) bottom
      (λ m i l. outside_bare ns b a m.key (inl l))

  -- the slot of a node exactly when the node is marked, and that of an edge out of it exactly when the edge is ..
  pub walk_visits : (j t : ℕ) → t ≤ lanes → In (slot_number j t) (walk ns b) ↔ SlotMarked ns b (drop j ns) t
  walk_visits j t l = rw walk_slots (slot_rule ns b j t l)

  -- .. and every number visited is that of a slot of some node ..
  pub walk_only : (s : ℕ) → In s (walk ns b) → (j : ℕ) × (t : ℕ) × (j < length ns) × (t ≤ lanes) × (s ≡ slot_number j t)
  walk_only s h = every_slot ns b s (subst (In s) walk_slots h)

  -- .. each once, in ascending order ..
  pub walk_ascends : Ascends (λ s. s) 0 (walk ns b)
  walk_ascends = rw walk_slots (slots_ascend ns b)

  -- .. so a band's number of marks is the walk's count
  pub walk_count : length (walk ns b) ≡ marks_of ns b
  walk_count = ap length walk_slots ∙ slot_count ns b

  -- a node is marked exactly when the walk visits its slot ..
  pub walk_visits_node : (j : ℕ) (n : Node) (rest : List Node) → drop j ns ≡ n ∷ rest
      → In (slot_number j 0) (walk ns b) ↔ (node_marked ns b n.key ≡ true)
  walk_visits_node j n rest at = rw walk_slots (node_slot ns b j n rest at)

  -- .. and an edge of a lane exactly when the walk visits its slot, at the node that it leads out of
  pub walk_visits_edge : (i : ℕ) → i < lanes → (e : Edge) (j : ℕ) → LeadsOut i (drop j ns) e
      → In (slot_number j (suc i)) (walk ns b) ↔ (edge_marked ns b i e ≡ true)
  walk_visits_edge i l e j o = rw walk_slots (out_slot ns b i j l e o)

-- marks in use of a standing profile are the walks' counts together
pub marks_in_use_by_walks : (p : Profile) → Standing p → marks_in_use p ≡ sum_of (λ b. length (walk p.nodes b)) p.bands
unfolding marks_in_use
marks_in_use_by_walks p s =
    sum_same p.bands
    (λ b i. let ends = s.ends_stand_lem b i in sym (walk_count p.nodes b s.keys_ascend_lem s.levels_right_lem ends.0 ends.1))

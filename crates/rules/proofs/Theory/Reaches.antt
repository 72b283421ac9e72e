-- "What one call can reach", the reaches, for any two ascending lists of nodes on the line, whatever is made, dropped, or made again:
-- an edge that lies in no reach is an edge of its lane both before and after, so marks outside the reaches are the same, both ways.
-- Assumes nothing.
use Prim.Native.Nat.{ℕ, ◌≤◌, ◌<◌}
use mathlib.Core.Path.{◌≡◌}
use mathlib.Core.Bool.{true}
use mathlib.Core.Logic.{◌↔◌, ◌⊎◌, inl, inr, ⊎_elim, ⊎_map}
use mathlib.Core.List.{List}
use native.Mathlib.Omega.{arith}
use Rattle.rules.specs.HallLine.{Band, highest_key, holds}
use Rattle.rules.specs.NodesLanesEdges.{Node, Edge, lane_of, edges_in}
use Rattle.rules.specs.Marks.{edge_marked, node_marked}
use Rattle.rules.specs.Reach.{present_both, made_or_dropped, reach_of}
use Rattle.rules.proofs.Means.{so_or_not, same_test, at_most_or_above}
use Rattle.rules.proofs.Lists.{In, Some, Each}
use Rattle.rules.proofs.HallLine.{held_between}
use Rattle.rules.proofs.NodesLanesEdges.{NodeAt, in_lane, Asc, Joins, edge_rule}
use Rattle.rules.proofs.Marks.{Contains, PassesOver, edge_mark_rule, node_mark_rule}
use Rattle.rules.proofs.Theory.EdgesNest.{in_own_lane, joins}
use Rattle.rules.proofs.Reach.{present_means, in_present_both, in_made_or_dropped, reach_runs, LiesIn, StrictlyInside}

-- One side of a change, here, and the other, there: the nodes here ascend on the line, those present on both sides are among them,
-- and each of them stands there too or is touched. Here may be before the call or after it, so each law below reads both ways.
pub record Side (both touched here there : List Node) : Type 0 where
  pub ascends : Asc 0 here
  pub on_line : Each (λ n. n.key ≤ highest_key) here
  pub has_both : Each (λ n. In n here) both
  pub stands_or_touched : Each (λ n. In n there ⊎ In n touched) here

-- the two sides of a change, by the nodes present both before and after it and those made or dropped
pub sides : (before after : List Node) → Asc 0 before → Asc 0 after
    → Each (λ n. n.key ≤ highest_key) before → Each (λ n. n.key ≤ highest_key) after
    → Side (present_both before after) (made_or_dropped before after) before after
    × Side (present_both before after) (made_or_dropped before after) after before
sides before after a c l m = (
  record {
    ascends = a;
    on_line = l;
    has_both = λ n i. ((in_present_both before after n).0 i).0;
    stands_or_touched = λ n i. ⊎_map (λ j. j) (λ off. (in_made_or_dropped before after n).1 (inr (i, off))) (so_or_not (present_means after n));
  },
  record {
    ascends = c;
    on_line = m;
    has_both = λ n i. ((in_present_both before after n).0 i).1;
    stands_or_touched = λ n i. ⊎_map (λ j. j) (λ off. (in_made_or_dropped before after n).1 (inl (i, off))) (so_or_not (present_means before n));
  },
)

module _ (both touched : List Node) where
  -- the edge lies in the reach of no touched node
  abbrev pub Clear : Edge → Type 0
  Clear e = Some (λ n. LiesIn e (reach_of both n)) touched → ⊥

  -- the key is strictly inside no such reach
  abbrev pub ClearAt : ℕ → Type 0
  ClearAt k = Some (λ n. StrictlyInside k (reach_of both n)) touched → ⊥

  -- an edge that contains a clear one is clear ..
  clear_around : (e f : Edge) → Contains f e → Clear e → Clear f
  clear_around e f c clear x = clear (x.0, x.1, omega (arith, x.2))

  -- .. and so is one that passes over a clear key
  clear_over : (k : ℕ) (f : Edge) → PassesOver f k → ClearAt k → Clear f
  clear_over k f c clear x = clear (x.0, x.1, omega (arith, x.2))

  module _ (here there : List Node) (s : Side both touched here there) where
    both_on_line : Each (λ n. n.key ≤ highest_key) both
    both_on_line n i = s.on_line n (s.has_both n i)

    module _ (j : ℕ) (e : Edge) (m : In e (edges_in j here)) where
      along : Joins e (lane_of j here)
      along = joins 0 here s.ascends j e m

      to_on_line : e.to ≤ highest_key
      to_on_line = let t = (in_lane j e.to here).0 along.to_in in omega (arith, s.on_line t.0 t.1, t.2)

      -- an edge of a lane here lies in the reach of any node of the lane, here or there, from one end of the edge to the other
      pub reach_covers : (n : Node) → j < n.level → e.from ≤ n.key → n.key ≤ e.to → LiesIn e (reach_of both n)
      reach_covers n l u v =
          let r = reach_runs both both_on_line n in (
            ⊎_elim
                (λ h. omega (arith, h.1))
                (λ h. ⊎_elim (λ w. omega (arith, h.0.2)) (λ w. absurd (omega (arith, h.0.2))) (outside h.0.0 h.0.1 h.0.2.0.0))
                r.0,
            ⊎_elim
                (λ h. omega (arith, h.1, to_on_line))
                (λ h. ⊎_elim (λ w. absurd (omega (arith, h.0.2))) (λ w. omega (arith, h.0.2)) (outside h.0.0 h.0.1 h.0.2.0.0))
                r.1,
          )
        where
          outside : (t : Node) → In t both → n.level ≤ t.level → (t.key ≤ e.from) ⊎ (e.to ≤ t.key)
          outside t i h = along.none_between t.key (in_own_lane j t here (s.has_both t i) (omega arith))

      -- so no such node is touched where the edge is clear: from one end of it to the other the lane has the same keys on both sides
      same_keys : Clear e → (xs ys : List Node) → Each (λ n. In n ys ⊎ In n touched) xs
          → (k : ℕ) → In k (lane_of j xs) → e.from ≤ k → k ≤ e.to → In k (lane_of j ys)
      same_keys clear xs ys h k i u v =
          let t = (in_lane j k xs).0 i in
          ⊎_elim
          (λ y. (in_lane j k ys).1 (t.0, y, t.2))
          (λ y. absurd (clear (t.0, y, reach_covers t.0 t.2.0 (omega (arith, t.2)) (omega (arith, t.2)))))
          (h t.0 t.1)

      -- an edge that lies in no reach is an edge of its lane on the other side too
      pub clear_edge_stays : Side both touched there here → Clear e → In e (edges_in j there)
      clear_edge_stays o clear =
          (edge_rule j 0 e there o.ascends).1
          record {
            from_in = same_keys clear here there s.stands_or_touched e.from along.from_in (omega arith) (omega (arith, along.upward));
            to_in = same_keys clear here there s.stands_or_touched e.to along.to_in (omega (arith, along.upward)) (omega arith);
            upward = along.upward;
            none_between = λ k i. apart k i (at_most_or_above k e.from) (at_most_or_above e.to k);
          }
        where
          apart : (k : ℕ) → In k (lane_of j there) → (k ≤ e.from) ⊎ (e.from < k) → (e.to ≤ k) ⊎ (k < e.to) → (k ≤ e.from) ⊎ (e.to ≤ k)
          apart k i (inl u) v = inl u
          apart k i (inr u) (inl v) = inr v
          apart k i (inr u) (inr v) = along.none_between k (same_keys clear there here o.stands_or_touched k i (omega arith) (omega arith))

    -- a node's key is strictly inside the node's own reach, unless it is an end of the line
    pub inside_own : (n : Node) (k : ℕ) → n.key ≡ k → 0 < k → k < highest_key → StrictlyInside k (reach_of both n)
    inside_own n k p l u =
        let r = reach_runs both both_on_line n in (
          ⊎_elim (λ h. omega (arith, h.1)) (λ h. omega (arith, h.0.2)) r.0,
          ⊎_elim (λ h. omega (arith, h.1)) (λ h. omega (arith, h.0.2)) r.1,
        )

    -- a node that a band holds and that is strictly inside no reach stands on the other side too, where the band's ends stand:
    -- a held key that is an end of the line is an end of the band
    pub held_node_stays : (b : Band) → b.high ≤ highest_key → NodeAt b.low there × NodeAt b.high there
        → (k : ℕ) → ClearAt k → holds b k ≡ true → NodeAt k here → NodeAt k there
    held_node_stays b top ends k clear h t =
        ⊎_elim (λ i. (t.0, i, t.2)) (λ i. at_end i (at_most_or_above k 0) (at_most_or_above highest_key k)) (s.stands_or_touched t.0 t.1)
      where
        at_end : In t.0 touched → (k ≤ 0) ⊎ (0 < k) → (highest_key ≤ k) ⊎ (k < highest_key) → NodeAt k there
        at_end i (inl z) w = (ends.0.0, ends.0.1, omega (arith, ends.0.2, held_between b k h))
        at_end i (inr z) (inl w) = (ends.1.0, ends.1.1, omega (arith, ends.1.2, held_between b k h))
        at_end i (inr z) (inr w) = absurd (clear (t.0, i, inside_own t.0 k t.2 z w))

  module _ (here there : List Node) (s : Side both touched here there) (o : Side both touched there here) (b : Band) where
    -- a band's mark on an edge that lies in no reach stays on the other side ..
    pub edge_mark_stays : (i : ℕ) (e : Edge) → Clear e → edge_marked here b i e ≡ true → edge_marked there b i e ≡ true
    edge_mark_stays i e clear h =
        let r = (edge_mark_rule here b i e).fact h in
        (edge_mark_rule there b i e).test
        (r.0, λ j l u f m c n. r.1 j l u f (clear_edge_stays there here o j f m s (clear_around e f c clear)) c n)

    -- .. and so does its mark on a node that is strictly inside none
    pub node_mark_stays : (k : ℕ) → ClearAt k → node_marked here b k ≡ true → node_marked there b k ≡ true
    node_mark_stays k clear h =
        let r = (node_mark_rule here b k).fact h in
        (node_mark_rule there b k).test
        (r.0, λ j u f m c n. r.1 j u f (clear_edge_stays there here o j f m s (clear_over k f c clear)) c n)

-- For any two ascending lists of nodes on the line, before and after:
module _ (before after : List Node) (a : Asc 0 before) (c : Asc 0 after)
    (l : Each (λ n. n.key ≤ highest_key) before) (m : Each (λ n. n.key ≤ highest_key) after) (b : Band) where
  -- an edge that lies in no reach is an edge of its lane before exactly when it is one after, and bears the same marks ..
  pub same_marks_on_edge : (i : ℕ) (e : Edge) → Clear (present_both before after) (made_or_dropped before after) e
      → (In e (edges_in i before) ↔ In e (edges_in i after)) × (edge_marked before b i e ≡ edge_marked after b i e)
  same_marks_on_edge i e clear =
      let s = sides before after a c l m in (
        (
          λ j. clear_edge_stays _ _ before after s.0 i e j s.1 clear,
          λ j. clear_edge_stays _ _ after before s.1 i e j s.0 clear,
        ),
        same_test (edge_marked before b i e) (edge_marked after b i e)
            (edge_mark_stays _ _ before after s.0 s.1 b i e clear)
            (edge_mark_stays _ _ after before s.1 s.0 b i e clear),
      )

  -- .. and where the band's ends stand before and after, it is marked on a node that is strictly inside none before exactly when it is after
  pub same_marks_on_node : NodeAt b.low before × NodeAt b.high before → NodeAt b.low after × NodeAt b.high after
      → (k : ℕ) → ClearAt (present_both before after) (made_or_dropped before after) k
      → (NodeAt k before × (node_marked before b k ≡ true)) ↔ (NodeAt k after × (node_marked after b k ≡ true))
  same_marks_on_node ends_before ends_after k clear =
      let s = sides before after a c l m in
      let end = ends_after.1 in
      let top : b.high ≤ highest_key = omega (arith, m end.0 end.1, end.2) in (
        λ h. (
          held_node_stays _ _ before after s.0 b top ends_after k clear ((node_mark_rule before b k).fact h.1).0 h.0,
          node_mark_stays _ _ before after s.0 s.1 b k clear h.1,
        ),
        λ h. (
          held_node_stays _ _ after before s.1 b top ends_before k clear ((node_mark_rule after b k).fact h.1).0 h.0,
          node_mark_stays _ _ after before s.1 s.0 b k clear h.1,
        ),
      )

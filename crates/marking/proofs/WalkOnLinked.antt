-- A band's staircase walked on linked node words, from a low end at which a node stands, is the walk of the rules over the nodes that the words say.
-- Assumes nothing.
use Prim.Native.Nat.{ℕ, zero, suc, ◌+◌, ◌-◌, ◌≤◌, ◌<◌}
use mathlib.Core.Path.{◌≡◌, sym, ◌∙◌, ap, subst}
use mathlib.Core.Bool.{Bool, true, false, cond}
use mathlib.Core.Logic.{◌⊎◌, inl, inr}
use mathlib.Core.List.{List, [], ◌∷◌, ◌++◌}
use mathlib.Core.Option.{Option, none, some}
use native.Mathlib.Omega.{arith}
use native.Mathlib.Nat.{add-zero, zero-add}
use lib.Dec.{leb}
use lib.ListN.{length, drop, length-drop}
use borrow.Author.Tests.{lt-ltb, le-ltb, le-leb, ne_eqb}
use Rattle.rules.specs.Connectives.{◌and◌}
use Rattle.rules.specs.Lists.{add_if}
use Rattle.rules.specs.HallLine.{Band, holds}
use Rattle.rules.specs.NodesLanesEdges.{Node, lanes, takes_part, lane_of, stands_at}
use Rattle.rules.specs.Staircase.{slot_number, Stair, stair_of, stair_in, or_else, highest_stair, along, walk_from, walk}
use Rattle.rules.proofs.Means.{never}
use Rattle.rules.proofs.Lists.{in_at_place, rest_follows, ascends_from}
use Rattle.rules.proofs.NodesLanesEdges.{Asc, NodeAt, stands_at_means}
use Rattle.rules.proofs.Theory.EdgesOut.{all_ahead, from_place_ahead}
use Rattle.rules.proofs.Theory.Staircase.{add_append}
use Rattle.store.specs.Places.{node_field, link_field, in_use}
use Rattle.store.specs.SaidProfile.{said_nodes}
use Rattle.store.specs.LaidNodes.{next_place}
use Rattle.store.proofs.SaidNodes.{said_nodes_length, said_in_use, said_key}
use Rattle.store.proofs.NextInLane.{None, Next, none_or_next, next_there}
use Rattle.search.specs.PlaceOf.{place_of}
use Rattle.search.proofs.PlaceAmongSaid.{PlaceFound, nowhere, at_place, place_among_said}
use Rattle.marking.specs.WordWalk.{leads_within, stair_below, stair_at, stair_to, visited, walk_on, walked}
use Rattle.marking.proofs.Linked.{Linked}
use Rattle.marking.proofs.WalkedSlots.{walk_ends}

-- the walk of the rules to the key of a node skips all nodes before it
skips_to : (b : Band) {n : Node} {rest : List Node} (c j d : ℕ) (ms : List Node) → Asc c ms → drop d ms ≡ n ∷ rest
    → walk_from b n.key j ms ≡ walk_from b n.key (j + d) (n ∷ rest)
skips_to b c j d [] a at = absurd (in_at_place d [] at)
skips_to b {n} c j zero (m ∷ ms) a at = rw add-zero (ap (walk_from b n.key j) at)
skips_to b {n} c j (suc d) (m ∷ ms) a at =
    let later = ascends_from (λ z. z.key) (suc m.key) ms a.1 n (in_at_place d ms at) in
    let moved : j + suc d ≡ suc j + d = omega arith in
    rw (lt-ltb m.key n.key later, moved) (skips_to b (suc m.key) (suc j) d ms a.1 at)

-- ---- where links lead

module _ (nodes : List ℕ) (high j i : ℕ) where
  -- a link of 0 leads nowhere ..
  leads_nowhere : node_field nodes (suc j) (link_field i) ≡ 0 → leads_within nodes high (suc j) i ≡ false
  unfolding leads_within ◌and◌
  leads_nowhere e = rw (e, le-ltb (suc j) 0 (omega arith))

  -- .. and one to a node further on leads within the high end exactly when that node's key is not above it
  leads_to : (d : ℕ) {n : Node} {rest : List Node} → drop (suc j + d) (said_nodes nodes) ≡ n ∷ rest
      → node_field nodes (suc j) (link_field i) ≡ suc (suc j + d) → leads_within nodes high (suc j) i ≡ leb n.key high
  unfolding leads_within ◌and◌
  leads_to d at e =
      let to : ℕ = suc j + d in
      rw (e, lt-ltb (suc j) (suc to) (omega arith), le-leb (suc to) _ (said_in_use nodes to at), said_key nodes to at)

-- ---- the stair at a place

-- the stair of place j + 1, as the words and as the rules have it: none, or the link to the next node of a lane
data SameStair (nodes : List ℕ) (j : ℕ) (rest : List Node) : ℕ → Option Stair → Type 0 where
  no_stair : SameStair nodes j rest zero none
  to_next :
      {i : ℕ} (x : Next i rest) → node_field nodes (suc j) (link_field i) ≡ suc (suc j + x.skipped)
      → SameStair nodes j rest (suc i) (some (stair_of i x.node.key))

module _ (nodes : List ℕ) (l : Linked nodes) (b : Band) where
  module _ (j : ℕ) (n : Node) (rest : List Node) (at : drop j (said_nodes nodes) ≡ n ∷ rest) where
    -- where the next node of a lane stands among all
    next_at : {i : ℕ} (x : Next i rest) → drop (suc j + x.skipped) (said_nodes nodes) ≡ x.node ∷ x.rest
    next_at x = next_there x (suc j) (said_nodes nodes) (rest_follows j (said_nodes nodes) at)

    -- words and rules have the same stair among the lowest m lanes
    same_stair : (m : ℕ) → m ≤ lanes → SameStair nodes j rest (stair_below nodes b.high (suc j) m) (highest_stair b.high n rest m)
    same_stair zero h = no_stair
    same_stair (suc i) h =
        go (takes_part i n) (l.link j n rest at i h) (none_or_next i rest) (stair_below nodes b.high (suc j) i) (highest_stair b.high n rest i)
        (same_stair i (omega arith))
      where
        go : (t : Bool) → node_field nodes (suc j) (link_field i) ≡ cond t (next_place i (suc (suc j)) rest) 0 → None i rest ⊎ Next i rest
            → (stair : ℕ) (o : Option Stair) → SameStair nodes j rest stair o
            → SameStair nodes j rest (cond (leads_within nodes b.high (suc j) i) (suc i) stair) (or_else (cond t (stair_in b.high i (lane_of i rest)) none) o)
        go false e x stair o s = rw (leads_nowhere nodes b.high j i e) s
        go true e (inl x) stair o s = rw (leads_nowhere nodes b.high j i (e ∙ x.link (suc j)), x.lane) s
        go true e (inr x) stair o s =
            rw (leads_to nodes b.high j i x.skipped (next_at x) (e ∙ x.link (suc j)), x.lane) (within (leb x.node.key b.high))
          where
            within : (t : Bool) → SameStair nodes j rest (cond t (suc i) stair) (or_else (cond t (some (stair_of i x.node.key)) none) o)
            within true = to_next x (e ∙ x.link (suc j))
            within false = s

  -- ---- the walk

  -- from each place on, with steps enough for the nodes from there on, both walks visit the same
  abbrev WalkAlike : ℕ → Type 0
  WalkAlike m =
      (j : ℕ) (n : Node) (rest : List Node) → drop j (said_nodes nodes) ≡ n ∷ rest → length rest < m
      → walk_on nodes b m (suc j) ≡ walk_from b n.key j (n ∷ rest)

  module _ (m : ℕ) (on : WalkAlike m) (j : ℕ) (n : Node) (rest : List Node) (at : drop j (said_nodes nodes) ≡ n ∷ rest) (h : length rest ≤ m) where
    -- on from the next node of a lane
    alike_onward : {i : ℕ} (x : Next i rest) → walk_on nodes b m (suc (suc j + x.skipped)) ≡ walk_from b x.node.key (suc j) rest
    alike_onward x =
        let ahead = from_place_ahead (said_nodes nodes) (suc j) 0 (said_nodes nodes) (all_ahead (said_nodes nodes) l.ascend) in
        let ascend = subst (Asc ahead.0) (rest_follows j (said_nodes nodes) at) ahead.1.ascend in
        on (suc j + x.skipped) x.node x.rest (next_at j n rest at x) (omega (arith, length-drop x.skipped rest, ap length x.there))
        ∙ sym (skips_to b ahead.0 (suc j) x.skipped rest ascend x.there)

    -- at a place: its node's slot, its stair's, and on from there
    alike_here : (stair : ℕ) (o : Option Stair) → SameStair nodes j rest stair o
        → visited nodes b (suc j) stair ++ walk_on nodes b m (stair_to nodes (suc j) stair)
        ≡ add_if (holds b n.key) (slot_number j 0) (along j o (λ y. walk_from b y (suc j) rest))
    alike_here stair o no_stair =
        let before : suc j - 1 ≡ j = omega arith in rw (said_key nodes j at, before, walk_ends nodes b m, add_append)
    alike_here stair o (to_next {i} x e) =
        let before : suc j - 1 ≡ j = omega arith in
        rw (said_key nodes j at, before, e, add_append, ne_eqb (suc i) 0 (λ z. omega arith), alike_onward x)

  walk_alike : (m : ℕ) → WalkAlike m
  unfolding stair_at
  walk_alike zero j n rest at h = absurd (omega arith)
  walk_alike (suc m) j n rest at h =
      rw (ne_eqb (suc j) 0 (λ z. omega arith), le-ltb n.key n.key (omega arith))
      (alike_here m (walk_alike m) j n rest at (omega arith) (stair_at nodes b.high (suc j)) (highest_stair b.high n rest lanes)
      (same_stair j n rest at lanes (omega arith)))

  -- so they do from the place of the low end's node on
  pub walk_on_linked : NodeAt b.low (said_nodes nodes) → walked nodes b ≡ walk (said_nodes nodes) b
  unfolding walked walk
  walk_on_linked low = from (place_among_said nodes b.low l.fits l.ascend)
    where
      from : PlaceFound (said_nodes nodes) b.low (place_of nodes b.low) (stands_at b.low (said_nodes nodes))
          → walk_on nodes b (in_use nodes) (place_of nodes b.low) ≡ walk_from b b.low 0 (said_nodes nodes)
      from (nowhere p s) = never (sym s ∙ (stands_at_means b.low (said_nodes nodes)).test low)
      from (at_place j n rest at k p s) =
          rw p
          (walk_alike (in_use nodes) j n rest at
          (omega (arith, length-drop j (said_nodes nodes), ap length at, said_nodes_length nodes))
          ∙ ap (λ i. walk_from b n.key i (n ∷ rest)) (sym (zero-add j))
          ∙ sym (skips_to b 0 0 j (said_nodes nodes) l.ascend at)
          ∙ ap (λ y. walk_from b y 0 (said_nodes nodes)) k)

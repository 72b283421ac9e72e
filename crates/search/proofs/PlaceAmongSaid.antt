-- Where the node of a key stands, on node words that say nodes in key order and have a place for each: at no place where no node stands at the key,
-- else at the place of that node.
-- Assumes nothing.
use Prim.Native.Nat.{ℕ, zero, suc, ◌+◌, ◌-◌, ◌/◌, ◌≤◌, ◌<◌}
use mathlib.Core.Path.{◌≡◌, refl, subst}
use mathlib.Core.Bool.{Bool, true, false, cond}
use mathlib.Core.Logic.{⊎_elim}
use mathlib.Core.List.{List, ◌∷◌}
use native.Mathlib.Omega.{arith}
use native.Mathlib.Nat.{min-eq_left}
use borrow.Author.Tests.{ltb-true, ltb-false}
use lib.Dec.{ltb}
use lib.ListN.{length, drop, drop_of_length-le}
use Rattle.rules.specs.NodesLanesEdges.{Node, stands_at}
use Rattle.rules.proofs.Means.{denied, so_or_not, eq_means, at_most_or_above}
use Rattle.rules.proofs.Lists.{some_cons, in_at_place, ascends_from}
use Rattle.rules.proofs.NodesLanesEdges.{Asc, NodeAt, stands_at_means}
use Rattle.rules.proofs.Theory.Passed.{Passed, none, passed_to, passed_ascends, at_key_ahead}
use Rattle.store.specs.Sizes.{node_place_words}
use Rattle.store.specs.Places.{node_field, key_field, header, in_use}
use Rattle.store.specs.SaidProfile.{said_node, said_nodes}
use Rattle.store.proofs.SaidNodes.{said_nodes_length, said_here}
use Rattle.search.specs.PlaceOf.{places_in_use, halfway, key_below, halved, first_not_below, place_of}
use Rattle.search.proofs.PlaceSteps.{place_there, other_key_there, none_not_below}

-- a place found for key k, and whether a node stands at k: no place and no node, or the place j + 1 of a node of that key
pub data PlaceFound (ns : List Node) (k place : ℕ) (stands : Bool) : Type 0 where
  nowhere : place ≡ 0 → stands ≡ false → PlaceFound ns k place stands
  at_place :
      (j : ℕ) (n : Node) (rest : List Node) → drop j ns ≡ n ∷ rest → n.key ≡ k → place ≡ suc j → stands ≡ true
      → PlaceFound ns k place stands

-- nodes in key order, the first not below k: where it does not stand at k, none does
none_at_key : (k : ℕ) (n : Node) (rest : List Node) → Asc 0 (n ∷ rest) → k ≤ n.key → (n.key ≡ k → ⊥) → NodeAt k (n ∷ rest) → ⊥
none_at_key k n rest a h off s =
    ⊎_elim off (λ t. omega (arith, t.2, ascends_from (λ m. m.key) (suc n.key) rest a.1 t.0 t.1)) ((some_cons n rest).0 s)

module _ (nodes : List ℕ) (k : ℕ) (ascend : Asc 0 (said_nodes nodes)) where
  -- the first j nodes are below k
  abbrev FirstBelow : ℕ → Type 0
  FirstBelow j = Passed k j (said_nodes nodes) (drop j (said_nodes nodes))

  -- place i, if it is in use, is not below k
  abbrev NotBelow : ℕ → Type 0
  NotBelow i = i ≤ (in_use nodes) → k ≤ node_field nodes i key_field

  -- where a place is below k, so are those before it
  below_with_first : (i : ℕ) → 0 < i → i ≤ (in_use nodes) → node_field nodes i key_field < k → FirstBelow i
  unfolding said_node
  below_with_first zero p h b = absurd (omega arith)
  below_with_first (suc j) p h b = passed_to k 0 j (said_nodes nodes) (said_node nodes (suc j)) _ ascend (said_here nodes j h) b

  -- between low and high: low is below k and high is not, and m halvings bring them side by side
  record Between (m low high : ℕ) : Type 0 where
    below : FirstBelow low
    not_below : NotBelow high
    upward : low < high
    within : high ≤ (in_use nodes) + 1
    enough : high ≤ low + suc m

  -- where the nodes part: after the first j, which are below k
  abbrev PartsAt : ℕ → Type 0
  PartsAt i = (j : ℕ) × (i ≡ suc j) × FirstBelow j × NotBelow (suc j)

  parts_between : {m low high : ℕ} → high ≤ low + 1 → Between m low high → PartsAt high
  parts_between {low = low} {high = high} near b =
      let e : high ≡ suc low = omega arith in (low, e, b.below, subst NotBelow e b.not_below)

  halving_parts : (m low high : ℕ) → Between m low high → PartsAt (halved nodes k m low high)
  halving_parts zero low high b = parts_between (omega arith) b
  halving_parts (suc m) low high b = go (ltb (low + 1) high) refl (key_below nodes k mid) refl (halving_parts m)
    where
      mid : ℕ
      mid = halfway low high

      go : (apart : Bool) → ltb (low + 1) high ≡ apart → (t : Bool) → key_below nodes k mid ≡ t
          → ((low high : ℕ) → Between m low high → PartsAt (halved nodes k m low high))
          → PartsAt (cond apart (halved nodes k m (cond t mid low) (cond t high mid)) high)
      go true e true f on =
          let apart : low + 1 < high = ltb-true _ _ e in
          on mid high (record {
            below = below_with_first mid (omega arith) (omega arith) (ltb-true _ _ f);
            not_below = b.not_below;
            upward = omega arith;
            within = b.within;
            enough = omega arith;
          })
      go true e false f on =
          let apart : low + 1 < high = ltb-true _ _ e in
          on low mid (record {
            below = b.below;
            not_below = λ h. ltb-false _ _ f;
            upward = omega arith;
            within = omega arith;
            enough = omega arith;
          })
      go false e t f on = parts_between (ltb-false _ _ e) b

  -- the place found and whether a node stands at k
  abbrev Found : Type 0
  Found = PlaceFound (said_nodes nodes) k (place_of nodes k) (stands_at k (said_nodes nodes))

  module _ (all : places_in_use nodes ≡ (in_use nodes)) (j : ℕ) (first : first_not_below nodes k ≡ suc j) (below : FirstBelow j) where
    -- no node stands at k where none does after the first j
    none_stands : (NodeAt k (drop j (said_nodes nodes)) → ⊥) → stands_at k (said_nodes nodes) ≡ false
    none_stands h = (denied (stands_at_means k (said_nodes nodes))).test (λ s. h (at_key_ahead below s))

    found_past : (in_use nodes) ≤ j → Found
    found_past h =
        let past = drop_of_length-le (said_nodes nodes) {i = j} (omega (arith, said_nodes_length nodes)) in
        nowhere (none_not_below nodes k first (omega arith)) (none_stands (rw past (λ s. s.1)))

    found_there : j < (in_use nodes) → k ≤ node_field nodes (suc j) key_field → Found
    unfolding said_node
    found_there h not_below =
        let at = said_here nodes j h in
        ⊎_elim
        (λ e. at_place j _ _ at e (place_there nodes k first (omega arith) e) ((stands_at_means k (said_nodes nodes)).test (_, in_at_place j _ at, e)))
        (λ off. nowhere (other_key_there nodes k first (omega arith) off)
        (none_stands (rw at (none_at_key k _ (drop (suc j) (said_nodes nodes)) (rw at at (passed_ascends below 0 ascend)) not_below off))))
        (so_or_not (eq_means (node_field nodes (suc j) key_field) k))

  place_parts : places_in_use nodes ≡ (in_use nodes) → Found
  unfolding first_not_below
  place_parts all =
      let s = halving_parts (places_in_use nodes) header (places_in_use nodes + 1) (record {
        below = none;
        not_below = λ h. absurd (omega arith);
        upward = omega arith;
        within = omega arith;
        enough = omega arith;
      }) in
      ⊎_elim (found_past all s.0 s.1 s.2) (λ h. found_there all s.0 s.1 s.2 h (s.3 h)) (at_most_or_above (in_use nodes) s.0)

pub place_among_said : (nodes : List ℕ) (k : ℕ) → in_use nodes ≤ length nodes / node_place_words - 1
    → Asc 0 (said_nodes nodes) → PlaceFound (said_nodes nodes) k (place_of nodes k) (stands_at k (said_nodes nodes))
unfolding places_in_use
place_among_said nodes k h ascend = place_parts nodes k ascend (min-eq_left h)

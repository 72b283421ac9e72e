-- Links laid in a draft, step by step: those of one place lane by lane, and those of all places from the last node back to the header.
-- Assumes nothing.
use Prim.Native.Nat.{ℕ, ◌+◌, ◌-◌, ◌≤◌, ◌<◌}
use mathlib.Core.Path.{◌≡◌, refl, sym, ◌∙◌, ap, subst}
use mathlib.Core.Bool.{Bool, cond}
use mathlib.Core.Logic.{⊎_map}
use mathlib.Core.List.{List}
use native.Mathlib.Numerals.{add-one}
use native.Mathlib.Omega.{arith}
use borrow.Author.Tests.{le-leb}
use lib.Dec.{leb, ltb, eqb}
use lib.ListN.{length, get_or}
use Rattle.rules.specs.Connectives.{◌and◌}
use Rattle.rules.specs.NodesLanesEdges.{lanes}
use Rattle.rules.proofs.Means.{Means, reworded, denied, and_means, and3_means, lt_means, le_means, eq_means, at_most_or_above, overlaid}
use Rattle.store.specs.Places.{node_field, with_node_field, header, level_field, link_field, in_use}
use Rattle.store.specs.HasFields.{HasFields}
use Rattle.store.proofs.NodeFields.{retold, own_fields, told_kept, stored_fields}
use Rattle.linking.specs.LinksDue.{linked_lanes, link_due, link_due_at}
use Rattle.linking.proofs.NextPlaces.{node_lanes}
use Rattle.linking.proofs.PlacesAhead.{Ahead}
use Rattle.committing.specs.LinkDraft.{is_link, lane_of_link, linked_field, linked_at_field}

-- ---- the links of one place

-- the field is a link in one of the lanes below a lane
abbrev is_link_below : ℕ → ℕ → Bool
is_link_below lane f = leb (link_field 0) f and ltb f (link_field lane)

module _ (lane f : ℕ) where
  link_below_means : Means (is_link_below lane f) ((link_field 0 ≤ f) × (f < link_field lane))
  link_below_means = and_means (le_means (link_field 0) f) (lt_means f (link_field lane))

  module _ (place i : ℕ) where
    -- .. of the place
    place_link_means : Means (eqb i place and is_link_below lane f) ((i ≡ place) × (link_field 0 ≤ f) × (f < link_field lane))
    place_link_means = and3_means (eq_means i place) (le_means (link_field 0) f) (lt_means f (link_field lane))

    -- .. the one in the lane itself
    lane_link_means : Means (eqb i place and eqb f (link_field lane)) ((i ≡ place) × (f ≡ link_field lane))
    lane_link_means = and_means (eq_means i place) (eq_means f (link_field lane))

module _ (words : List ℕ) (place level : ℕ) (ahead : List ℕ) where
  -- field f of place i once the links of the place are laid in the lanes below a lane
  unfoldable pub linked_below_field : ℕ → ℕ → ℕ → ℕ
  linked_below_field lane i f =
      cond (eqb i place and is_link_below lane f) (link_due level (lane_of_link f) (get_or ahead (lane_of_link f) 0)) (node_field words i f)

  pub no_lane_laid : HasFields (length words) (linked_below_field 0) words
  unfolding linked_below_field
  no_lane_laid = retold (own_fields words) (λ i f l. rw ((denied (place_link_means 0 f place i)).test (λ h. omega arith)))

  -- one lane more
  pub one_more_lane_laid : (n lane due : ℕ) (draft more : List ℕ) → lane < lanes → due ≡ link_due level lane (get_or ahead lane 0)
      → more ≡ with_node_field draft place (link_field lane) due → HasFields n (linked_below_field lane) draft
      → HasFields n (linked_below_field (lane + 1)) more
  unfolding linked_below_field
  one_more_lane_laid n lane due draft more l d e h =
      subst (HasFields n (linked_below_field (lane + 1))) (sym e)
      (retold (stored_fields n (linked_below_field lane) draft h place (link_field lane) due (omega arith)) (λ i f _.
      overlaid (node_field words i f) (lane_link_means lane f place i) (place_link_means lane f place i) (place_link_means (lane + 1) f place i)
      (λ at. (at.0, omega arith, omega arith))
      (λ at. (at.0, at.1, omega arith))
      (λ at. ⊎_map (λ here. (at.0, omega arith)) (λ below. (at.0, at.1, below)) (at_most_or_above (link_field lane) f))
      (λ at. d ∙ ap (λ k. link_due level k (get_or ahead k 0)) (omega arith))))

  pub all_lanes_laid : (n lane : ℕ) (draft : List ℕ) → lane ≡ lanes → HasFields n (linked_below_field lane) draft
      → HasFields n (linked_at_field words place level ahead) draft
  unfolding linked_below_field linked_at_field
  all_lanes_laid n lane draft e h = subst (λ all. HasFields n (linked_below_field all) draft) e h

-- ---- the links of all places, from the last node back

module _ (words : List ℕ) where
  -- field f of place i once the links are laid of the places in use from a place on
  unfoldable pub linked_from_field : ℕ → ℕ → ℕ → ℕ
  linked_from_field place i f =
      cond (leb place i and leb i (in_use words) and is_link f) (link_due_at words i (lane_of_link f)) (node_field words i f)

  linked_from_means : (place i f : ℕ)
      → Means (leb place i and leb i (in_use words) and is_link f) ((place ≤ i) × (i ≤ in_use words) × (link_field 0 ≤ f) × (f < link_field lanes))
  linked_from_means place i f =
      reworded (and3_means (le_means place i) (le_means i (in_use words)) (link_below_means lanes f))
      (λ h. (h.0, h.1, h.2.0, h.2.1))
      (λ h. (h.0, h.1, (h.2, h.3)))

  pub no_place_linked : (place : ℕ) → place ≡ in_use words → HasFields (length words) (linked_from_field (place + 1)) words
  unfolding linked_from_field
  no_place_linked place e = retold (own_fields words) (λ i f l. rw ((denied (linked_from_means (place + 1) i f)).test (λ h. omega arith)))

  -- the level of a node is as it was
  pub level_kept : (place from : ℕ) (draft : List ℕ) → HasFields (length words) (linked_from_field from) draft
      → node_field draft place level_field ≡ node_field words place level_field
  unfolding linked_from_field
  level_kept place from draft h =
      told_kept words h place level_field (omega arith)
      (rw ((denied (linked_from_means from place level_field)).test (λ h. omega arith)))

  -- the link due at a place, by the first places ahead
  due_by_ahead : (place level : ℕ) (ahead : List ℕ) (i lane : ℕ) → level ≡ linked_lanes words place → Ahead words place ahead → i ≡ place
      → lane < lanes → link_due level lane (get_or ahead lane 0) ≡ link_due_at words i lane
  unfolding link_due_at
  due_by_ahead place level ahead i lane e a here l = rw (here, e, a.first lane l, add-one)

  -- one place more, which has links in `level` lanes
  one_more_place_linked : (place level : ℕ) (ahead draft more : List ℕ) → place ≤ in_use words → level ≡ linked_lanes words place
      → Ahead words place ahead → HasFields (length words) (linked_from_field (place + 1)) draft
      → HasFields (length draft) (linked_at_field draft place level ahead) more → HasFields (length words) (linked_from_field place) more
  unfolding linked_from_field linked_at_field
  one_more_place_linked place level ahead draft more u e a h g =
      record {
        size = g.size ∙ h.size;
        at = λ i f l within.
            g.at i f l (omega (arith, h.size))
            ∙ ap (cond (eqb i place and is_link f) (link_due level (lane_of_link f) (get_or ahead (lane_of_link f) 0))) (h.at i f l within)
            ∙ overlaid (node_field words i f)
            (place_link_means lanes f place i)
            (linked_from_means (place + 1) i f)
            (linked_from_means place i f)
            (λ at. (omega arith, omega arith, at.1, at.2))
            (λ at. (omega arith, at.1, at.2, at.3))
            (λ at. ⊎_map (λ here. (omega arith, at.2, at.3)) (λ past. (omega arith, at.1, at.2, at.3)) (at_most_or_above i place))
            (λ at. due_by_ahead place level ahead i (lane_of_link f) e a at.0 (omega arith));
      }

  -- .. a node's
  pub one_more_node_linked : (place level : ℕ) (ahead draft more : List ℕ) → 0 < place → place ≤ in_use words
      → level ≡ node_field words place level_field → Ahead words place ahead → HasFields (length words) (linked_from_field (place + 1)) draft
      → HasFields (length draft) (linked_at_field draft place level ahead) more
      → HasFields (length words) (linked_from_field (place - 1 + 1)) more
  one_more_node_linked place level ahead draft more p u e a h g =
      let back : place - 1 + 1 ≡ place = omega arith in
      rw back (one_more_place_linked place level ahead draft more u (e ∙ sym (node_lanes words place p)) a h g)

  -- .. the header's, and with it all
  pub header_linked : (place : ℕ) (ahead draft more : List ℕ) → place ≤ 0 → Ahead words place ahead
      → HasFields (length words) (linked_from_field (place + 1)) draft
      → HasFields (length draft) (linked_at_field draft header lanes ahead) more → HasFields (length words) (linked_field words) more
  unfolding linked_from_field linked_field linked_lanes ◌and◌
  header_linked place ahead draft more p a h g =
      let here : place ≡ header = omega arith in
      let a_here = subst (λ i. Ahead words i ahead) here a in
      let h_here = subst (λ i. HasFields (length words) (linked_from_field (i + 1)) draft) here h in
      retold (one_more_place_linked header lanes ahead draft more (omega arith) refl a_here h_here g) (λ i f l. rw (le-leb header i (omega arith)))

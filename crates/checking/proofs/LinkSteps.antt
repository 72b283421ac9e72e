-- The pass over the links from the last node back to the header, step by step: the links of a place by the first places ahead, and of the places
-- up to one.
-- Assumes nothing.
use Prim.Native.Nat.{ℕ, suc, ◌+◌, ◌-◌, ◌≤◌, ◌<◌}
use mathlib.Core.Path.{◌≡◌, refl, sym, ◌∙◌, ap, subst}
use mathlib.Core.Bool.{Bool, true, false}
use mathlib.Core.Logic.{inr}
use mathlib.Core.List.{List}
use native.Mathlib.Numerals.{add-one}
use native.Mathlib.Omega.{arith}
use Rattle.rules.specs.Connectives.{◌and◌}
use Rattle.rules.specs.Lists.{all_from}
use Rattle.rules.specs.NodesLanesEdges.{lanes}
use Rattle.rules.proofs.Lists.{all_from_same, all_from_last}
use Rattle.rules.proofs.Means.{false_and, and_true}
use Rattle.store.specs.Places.{node_field, level_field, header, in_use}
use Rattle.linking.specs.LinksDue.{linked_lanes, link_due_at}
use Rattle.linking.proofs.NextPlaces.{node_lanes}
use Rattle.linking.proofs.PlacesAhead.{Ahead}
use Rattle.checking.specs.Links.{link_right, place_links_right, links_right, link_by_ahead, links_due}

module _ (nodes : List ℕ) where
  -- the links of a place are right exactly when they are due by the first places ahead
  pub links_by_ahead : (place level : ℕ) (ahead : List ℕ) → level ≡ linked_lanes nodes place → Ahead nodes place ahead
      → links_due nodes place level ahead ≡ place_links_right nodes place
  unfolding links_due place_links_right link_right link_due_at
  links_by_ahead place level ahead e a =
      all_from_same {f = link_by_ahead nodes place level ahead} {g = link_right nodes place} 0 lanes
      (λ lane _ l. rw (e, a.first lane (omega arith), add-one))

  -- the links of the places up to a place
  unfoldable pub links_up_to : ℕ → Bool
  links_up_to place = all_from (place_links_right nodes) 0 (suc place)

  up_to_last : (place : ℕ) → links_up_to place ≡ all_from (place_links_right nodes) 0 place and place_links_right nodes place
  unfolding links_up_to
  up_to_last place = let here : 0 + place ≡ place = omega arith in rw here at (all_from_last (place_links_right nodes) 0 place)

  pub all_links : (place : ℕ) → place ≡ in_use nodes → links_up_to place ≡ links_right nodes
  unfolding links_up_to links_right
  all_links place e = ap links_up_to e

  -- a node's links, tested by the first places ahead: where they fail so do those up to it, and where they pass those before it are left
  module _ (place : ℕ) (h : 0 < place) {level : ℕ} {ahead : List ℕ} {answer : Bool} (known : level ≡ node_field nodes place level_field)
      (a : Ahead nodes place ahead) (says : answer ≡ links_due nodes place level ahead) where
    node_tested : answer ≡ place_links_right nodes place
    node_tested = says ∙ links_by_ahead place level ahead (known ∙ sym (node_lanes nodes place h)) a

    pub links_stopped : answer ≡ false → links_up_to place ≡ false
    links_stopped e = up_to_last place ∙ false_and _ _ (inr (sym node_tested ∙ e))

    pub links_onward : answer ≡ true → links_up_to place ≡ links_up_to (place - 1)
    unfolding links_up_to
    links_onward e =
        let passed = all_from (place_links_right nodes) 0 place in
        let less : place ≡ suc (place - 1) = omega arith in
        up_to_last place
        ∙ ap (λ t. passed and t) (sym node_tested ∙ e)
        ∙ and_true passed
        ∙ ap (all_from (place_links_right nodes) 0) less

  pub links_at_header : (place : ℕ) (ahead : List ℕ) → place ≤ 0 → Ahead nodes place ahead
      → links_due nodes header lanes ahead ≡ links_up_to place
  unfolding links_up_to linked_lanes
  links_at_header place ahead h a =
      let e : place ≡ 0 = omega arith in
      links_by_ahead header lanes ahead refl (subst (λ p. Ahead nodes p ahead) e a)
      ∙ sym (and_true (place_links_right nodes header))
      ∙ ap links_up_to (sym e)

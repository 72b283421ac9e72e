-- Whatever the words are, every mark that the bands ask for belongs in a slot of a node in use: a walk visits places in use alone.
-- Assumes nothing.
use Prim.Native.Nat.{ℕ, zero, suc, ◌-◌, ◌*◌, ◌≤◌, ◌<◌}
use native.Mathlib.Omega.{arith}
use mathlib.Core.Path.{◌≡◌, refl, subst}
use mathlib.Core.Bool.{Bool, true, false, cond}
use mathlib.Core.Logic.{⊎_elim}
use mathlib.Core.List.{List, [], ◌++◌}
use borrow.Author.Tests.{eqb-false}
use lib.Dec.{eqb}
use Rattle.rules.specs.Connectives.{says_yes}
use Rattle.rules.specs.HallLine.{Band, holds}
use Rattle.rules.specs.NodesLanesEdges.{lanes}
use Rattle.rules.specs.Staircase.{slots_per_node, slot_number}
use Rattle.rules.proofs.Lists.{Each, each_cons, each_append, each_only_if, each_add_if, in_map}
use Rattle.store.specs.Sizes.{band_places}
use Rattle.store.specs.Places.{node_field, key_field, band_field, live_field, in_use}
use Rattle.store.specs.SaidProfile.{said_band}
use Rattle.search.specs.PlaceOf.{place_of}
use Rattle.search.proofs.PlaceSteps.{place_in_use, places_in_use_counted}
use Rattle.marking.specs.WordWalk.{leads_within, stair_below, stair_at, stair_to, visited, walk_on, walked, slots_of}
use Rattle.marking.specs.Buckets.{mark_of}
use Rattle.marking.specs.Staircases.{marks_in, staircases_from, staircases}
use Rattle.marking.proofs.WalkedSlots.{stair_onward}

module _ (nodes : List ℕ) where
  -- a slot of a node in use
  abbrev InRange : ℕ → Type 0
  InRange s = s < in_use nodes * slots_per_node

  -- each slot of a place in use is one
  slot_in_range : (here s : ℕ) → (here ≡ 0 → ⊥) → here ≤ in_use nodes → s ≤ lanes → InRange (slot_number (here - 1) s)
  unfolding slot_number
  slot_in_range zero s some used within = absurd (some refl)
  slot_in_range (suc j) s some used within = omega arith

  -- a stair is the slot of an edge
  stair_below_within : (high here m : ℕ) → stair_below nodes high here m ≤ m
  stair_below_within high here zero = omega arith
  stair_below_within high here (suc i) = go (leads_within nodes high here i) (stair_below_within high here i)
    where
      go : (t : Bool) → stair_below nodes high here i ≤ i → cond t (suc i) (stair_below nodes high here i) ≤ suc i
      go true h = omega arith
      go false h = omega arith

  stair_within : (high here : ℕ) → stair_at nodes high here ≤ lanes
  unfolding stair_at
  stair_within high here = stair_below_within high here lanes

  module _ (b : Band) where
    visited_in_range : (here stair : ℕ) → (here ≡ 0 → ⊥) → here ≤ in_use nodes → stair ≤ lanes → Each InRange (visited nodes b here stair)
    visited_in_range here stair some used within =
        each_add_if (holds b (node_field nodes here key_field)) _ _ (slot_in_range here 0 some used (omega arith))
        (each_only_if (says_yes stair) _ ((each_cons _ []).1 (slot_in_range here stair some used within, λ x i. absurd i)))

    walk_on_in_range : (m here : ℕ) → here ≤ in_use nodes → Each InRange (walk_on nodes b m here)
    walk_on_in_range zero here used = λ x i. absurd i
    walk_on_in_range (suc m) here used = go (eqb here 0) refl (walk_on_in_range m)
      where
        stair : ℕ
        stair = stair_at nodes b.high here

        go : (t : Bool) → eqb here 0 ≡ t → ((next : ℕ) → next ≤ in_use nodes → Each InRange (walk_on nodes b m next))
            → Each InRange (cond t [] (visited nodes b here stair ++ walk_on nodes b m (stair_to nodes here stair)))
        go true e onward = λ x i. absurd i
        go false e onward =
            each_append (visited nodes b here stair) _
            (visited_in_range here stair (eqb-false here 0 e) used (stair_within b.high here))
            (onward (stair_to nodes here stair) (⊎_elim (λ z. omega arith) (λ l. l.1) (stair_onward nodes b.high here)))

    walked_in_range : Each InRange (walked nodes b)
    unfolding walked
    walked_in_range = walk_on_in_range (in_use nodes) (place_of nodes b.low) (omega (arith, place_in_use nodes b.low, places_in_use_counted nodes))

  slots_in_range : (bands : List ℕ) (number : ℕ) → Each InRange (slots_of bands nodes number)
  unfolding slots_of
  slots_in_range bands number =
      each_only_if (says_yes (band_field bands number live_field)) _ (walked_in_range (said_band bands number))

  marks_in_range : (number : ℕ) (slots : List ℕ) → Each InRange slots → Each (λ m. InRange m.slot) (marks_in number slots)
  marks_in_range number slots h m i =
      let from = (in_map (λ s. mark_of s number) m slots).0 i in
      subst (λ x. InRange x.slot) from.2 (h from.0 from.1)

  staircases_from_in_range : (bands : List ℕ) (b m : ℕ) → Each (λ m. InRange m.slot) (staircases_from bands nodes b m)
  staircases_from_in_range bands b zero = λ x i. absurd i
  staircases_from_in_range bands b (suc m) =
      each_append (marks_in b (slots_of bands nodes b)) _
      (marks_in_range b (slots_of bands nodes b) (slots_in_range bands b))
      (staircases_from_in_range bands (suc b) m)

pub staircases_in_range : (bands nodes : List ℕ)
    → Each (λ m. m.slot < in_use nodes * slots_per_node) (staircases bands nodes)
unfolding staircases
staircases_in_range bands nodes = staircases_from_in_range nodes bands 0 band_places

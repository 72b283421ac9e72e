-- What the places of the bands' ends mean, on node words that have a place for each node and say nodes in key order: all have one exactly when each
-- end has its node, and a place is among them exactly when the key which it has is an end.
-- Assumes nothing.
use Prim.Native.Nat.{ℕ, zero, suc, ◌+◌, ◌-◌, ◌/◌, ◌≤◌, ◌<◌}
use mathlib.Core.Path.{◌≡◌, refl, sym, ◌∙◌, ap, subst}
use mathlib.Core.Bool.{Bool, true, false}
use mathlib.Core.Logic.{◌↔◌, ◌⊎◌, inl, inr, ⊎_elim, ⊎_map}
use mathlib.Core.List.{List, [], ◌∷◌, ◌++◌}
use native.Mathlib.Omega.{arith}
use lib.ListN.{length, drop}
use borrow.Author.Tests.{ne_eqb}
use Rattle.rules.specs.Connectives.{says_yes}
use Rattle.rules.specs.Lists.{only_if, add_if, all, member}
use Rattle.rules.specs.HallLine.{Band}
use Rattle.rules.specs.NodesLanesEdges.{stands_at}
use Rattle.rules.proofs.Means.{Means, reworded, itself, never}
use Rattle.rules.proofs.Lists.{In, Some, Each, some_cons, all_means, member_means, in_at_place}
use Rattle.rules.proofs.NodesLanesEdges.{Asc, NodeAt, EndOf, stands_at_means}
use Rattle.rules.proofs.Theory.EdgesOut.{one_place}
use Rattle.store.specs.Sizes.{band_places, node_place_words}
use Rattle.store.specs.Places.{band_field, live_field, node_field, key_field, in_use}
use Rattle.store.specs.SaidProfile.{said_band, said_bands_from, said_bands, said_node, said_nodes}
use Rattle.store.proofs.SaidNodes.{said_here, said_key}
use Rattle.search.specs.PlaceOf.{place_of}
use Rattle.search.proofs.PlaceAmongSaid.{PlaceFound, nowhere, at_place, place_among_said}
use Rattle.linking.specs.EndPlaces.{end_places_of, end_places_from, end_places}

module _ (bands nodes : List ℕ) where
  -- the place is that of an end of the band
  abbrev PlaceOfEnd : ℕ → Band → Type 0
  PlaceOfEnd i b = (i ≡ place_of nodes b.low) ⊎ (i ≡ place_of nodes b.high)

  -- the places that are gone through are those of the ends of the bands that are said
  in_end_places_from : (i b m : ℕ) → In i (end_places_from bands nodes b m) ↔ Some (PlaceOfEnd i) (said_bands_from bands b m)
  unfolding end_places_of
  in_end_places_from i b zero = (λ h. absurd h, λ s. s.1)
  in_end_places_from i b (suc m) = go (says_yes (band_field bands b live_field)) (in_end_places_from i (suc b) m)
    where
      band : Band
      band = said_band bands b

      later : List Band
      later = said_bands_from bands (suc b) m

      go : (t : Bool) → In i (end_places_from bands nodes (suc b) m) ↔ Some (PlaceOfEnd i) later
          → In i (only_if t (place_of nodes band.low ∷ place_of nodes band.high ∷ []) ++ end_places_from bands nodes (suc b) m)
          ↔ Some (PlaceOfEnd i) (add_if t band later)
      go true e = (
        λ h. (some_cons band later).1 (⊎_elim (λ p. inl (inl p)) (⊎_map inr e.0) h),
        λ s. ⊎_elim (⊎_map (λ p. p) inl) (λ l. inr (inr (e.1 l))) ((some_cons band later).0 s),
      )
      go false e = e

  in_end_places : (i : ℕ) → In i (end_places bands nodes) ↔ Some (PlaceOfEnd i) (said_bands bands)
  unfolding end_places said_bands
  in_end_places i = in_end_places_from i 0 band_places

  module _ (fit : in_use nodes ≤ length nodes / node_place_words - 1) (ascend : Asc 0 (said_nodes nodes)) where
    -- a key has a place exactly when a node stands there
    has_place_means : (k : ℕ) → Means (says_yes (place_of nodes k)) (NodeAt k (said_nodes nodes))
    has_place_means k =
        subst (λ t. Means t (NodeAt k (said_nodes nodes))) (go (place_among_said nodes k fit ascend)) (stands_at_means k (said_nodes nodes))
      where
        go : PlaceFound (said_nodes nodes) k (place_of nodes k) (stands_at k (said_nodes nodes)) → stands_at k (said_nodes nodes) ≡ says_yes (place_of nodes k)
        go (nowhere p s) = rw (p, s)
        go (at_place j n rest at e p s) = rw (p, s, ne_eqb (suc j) 0 (λ z. omega arith))

    -- a place in use is that of the key which it has
    place_by_key : (i k : ℕ) → 1 ≤ i → i < 1 + in_use nodes → (i ≡ place_of nodes k) ↔ ((said_node nodes i).key ≡ k)
    unfolding said_node
    place_by_key zero k l h = absurd (omega arith)
    place_by_key (suc j) k l h = go (place_among_said nodes k fit ascend)
      where
        here : drop j (said_nodes nodes) ≡ said_node nodes (suc j) ∷ drop (suc j) (said_nodes nodes)
        here = said_here nodes j (omega arith)

        go : PlaceFound (said_nodes nodes) k (place_of nodes k) (stands_at k (said_nodes nodes))
            → (suc j ≡ place_of nodes k) ↔ (node_field nodes (suc j) key_field ≡ k)
        go (nowhere p s) = (
          λ q. absurd (omega arith),
          λ q. never (sym s ∙ (stands_at_means k (said_nodes nodes)).test (said_node nodes (suc j), in_at_place j _ here, q)),
        )
        go (at_place i n rest at e p s) = (
          λ q. ap (λ x. node_field nodes x key_field) (q ∙ p) ∙ said_key nodes i at ∙ e,
          λ q. omega (arith, one_place 0 (said_nodes nodes) ascend k j i (rw here q) (rw at e)),
        )

    -- each end has a place: a node stands there
    pub all_placed_means :
        Means
        (all says_yes (end_places bands nodes))
        (Each (λ b. NodeAt b.low (said_nodes nodes) × NodeAt b.high (said_nodes nodes)) (said_bands bands))
    all_placed_means =
        reworded
        (all_means (λ i. itself (says_yes i)) (end_places bands nodes))
        (λ h b m. (placed h b m b.low (inl refl), placed h b m b.high (inr refl)))
        (λ h i m. let s = (in_end_places i).0 m in let both = h s.0 s.1 in ⊎_elim (stands both.0) (stands both.1) s.2)
      where
        placed : Each (λ i. says_yes i ≡ true) (end_places bands nodes) → (b : Band) → In b (said_bands bands) → (k : ℕ) → EndOf k b → NodeAt k (said_nodes nodes)
        placed h b m k e =
            (has_place_means k).fact (h (place_of nodes k) ((in_end_places (place_of nodes k)).1 (b, m, ⊎_map (ap (place_of nodes)) (ap (place_of nodes)) e)))

        stands : {i k : ℕ} → NodeAt k (said_nodes nodes) → i ≡ place_of nodes k → says_yes i ≡ true
        stands {k = k} n e = ap says_yes e ∙ (has_place_means k).test n

    -- a place in use is among those gone through exactly when the key which it has is an end of some band
    pub place_of_end_means : (i : ℕ) → 1 ≤ i → i < 1 + in_use nodes
        → Means (member i (end_places bands nodes)) (Some (EndOf (said_node nodes i).key) (said_bands bands))
    place_of_end_means i a b =
        let at : (k : ℕ) → (i ≡ place_of nodes k) ↔ ((said_node nodes i).key ≡ k) = λ k. place_by_key i k a b in
        reworded
        (member_means i (end_places bands nodes))
        (λ m. let s = (in_end_places i).0 m in (s.0, s.1, ⊎_map (at _).0 (at _).0 s.2))
        (λ s. (in_end_places i).1 (s.0, s.1, ⊎_map (at _).1 (at _).1 s.2))

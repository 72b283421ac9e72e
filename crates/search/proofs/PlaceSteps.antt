-- Finding a node's place by halving, step by step: from all places in use, on into the upper or the lower half, to two places side by side; what is
-- found there; and that no place is found past those in use.
-- Assumes nothing.
use Prim.Native.Nat.{ℕ, zero, suc, ◌+◌, ◌≤◌, ◌<◌}
use native.Mathlib.Omega.{arith}
use mathlib.Core.Path.{◌≡◌, refl, sym}
use mathlib.Core.Bool.{Bool, true, false, cond}
use mathlib.Core.List.{List}
use borrow.Author.Tests.{lt-ltb, le-ltb, le-leb, lt-leb, eq-eqb, ne_eqb, leb-true}
use lib.Dec.{leb, eqb}
use Rattle.rules.specs.Connectives.{◌and◌}
use Rattle.rules.proofs.Means.{and_both}
use Rattle.store.specs.Places.{node_field, key_field, header, in_use}
use Rattle.search.specs.PlaceOf.{places_in_use, halfway, key_below, halved, first_not_below, place_of}

module _ (nodes : List ℕ) (k : ℕ) where
  -- halving from low and high comes to r: there are steps enough, and they lead there
  pub record HalvesTo (low high r : ℕ) : Type 0 where
    pub steps : ℕ
    pub enough : high ≤ low + suc steps
    pub comes_to : halved nodes k steps low high ≡ r

  pub halves_from_all : HalvesTo header (places_in_use nodes + 1) (first_not_below nodes k)
  unfolding first_not_below
  halves_from_all = record { steps = places_in_use nodes; enough = omega arith; comes_to = refl }

  half : (m low high : ℕ) {r : ℕ} → high ≤ low + suc m → halved nodes k m low high ≡ r → low + 1 < high
      → (t : Bool) → key_below nodes k (halfway low high) ≡ t → HalvesTo (cond t (halfway low high) low) (cond t high (halfway low high)) r
  half zero low high l e apart t b = absurd (omega arith)
  half (suc m) low high l e apart true b = record { steps = m; enough = omega arith; comes_to = rw (lt-ltb _ _ apart, b) at e }
  half (suc m) low high l e apart false b = record { steps = m; enough = omega arith; comes_to = rw (lt-ltb _ _ apart, b) at e }

  module _ {low high r : ℕ} where
    -- where the place halfway is below k, on into the upper half ..
    pub upper_half : low + 1 < high → node_field nodes (halfway low high) key_field < k → HalvesTo low high r → HalvesTo (halfway low high) high r
    upper_half apart b h = half h.steps low high h.enough h.comes_to apart true (lt-ltb _ _ b)

    -- .. and where it is not, into the lower
    pub lower_half : low + 1 < high → k ≤ node_field nodes (halfway low high) key_field → HalvesTo low high r → HalvesTo low (halfway low high) r
    lower_half apart b h = half h.steps low high h.enough h.comes_to apart false (le-ltb _ _ b)

    pub side_by_side : high ≤ low + 1 → HalvesTo low high r → r ≡ high
    side_by_side near h = go h.steps h.comes_to
      where
        go : (m : ℕ) → halved nodes k m low high ≡ r → r ≡ high
        go zero e = sym e
        go (suc m) e = sym (rw (le-ltb _ _ near) at e)

  -- ---- the place found there

  module _ {i : ℕ} (first : first_not_below nodes k ≡ i) where
    pub place_there : i ≤ places_in_use nodes → node_field nodes i key_field ≡ k → place_of nodes k ≡ i
    unfolding place_of ◌and◌
    place_there h e = rw (first, le-leb _ _ h, eq-eqb _ _ e)

    pub other_key_there : i ≤ places_in_use nodes → (node_field nodes i key_field ≡ k → ⊥) → place_of nodes k ≡ 0
    unfolding place_of ◌and◌
    other_key_there h n = rw (first, le-leb _ _ h, ne_eqb _ _ n)

    pub none_not_below : places_in_use nodes < i → place_of nodes k ≡ 0
    unfolding place_of ◌and◌
    none_not_below h = rw (first, lt-leb _ _ h)

  -- ---- no further than the places in use

  pub place_in_use : place_of nodes k ≤ places_in_use nodes
  unfolding place_of
  place_in_use = go (first_not_below nodes k) _ refl
    where
      go : (i : ℕ) (t : Bool) → leb i (places_in_use nodes) and eqb (node_field nodes i key_field) k ≡ t → cond t i 0 ≤ places_in_use nodes
      go i true e = leb-true _ _ (and_both _ _ e).0
      go i false e = omega arith

pub places_in_use_counted : (nodes : List ℕ) → places_in_use nodes ≤ in_use nodes
unfolding places_in_use
places_in_use_counted nodes = omega arith

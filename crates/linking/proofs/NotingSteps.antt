-- Noting the places of the bands' ends, number by number; and which places are noted then.
-- Assumes nothing.
use Prim.Native.Nat.{ℕ, suc, ◌+◌, ◌-◌, ◌≤◌, ◌<◌}
use mathlib.Core.Path.{◌≡◌, refl, sym, ◌∙◌, ap}
use mathlib.Core.Bool.{Bool, true, false, ◌&&◌}
use mathlib.Core.List.{List, [], ◌∷◌, ◌++◌}
use native.Mathlib.Numerals.{add-one}
use native.Mathlib.Omega.{arith}
use lib.Dec.{eqb}
use lib.ListN.{length, get_or, set, replicate, length-set, length-replicate, get_or-replicate}
use lib.Seq.{get_or-set_same, get_or-set_other}
use borrow.Author.Tests.{eqb-true, eqb-false}
use Rattle.rules.specs.Connectives.{◌and◌, ◌or◌, says_yes}
use Rattle.rules.specs.Lists.{all, member}
use Rattle.rules.specs.HallLine.{Band}
use Rattle.rules.proofs.Connectives.{both}
use Rattle.rules.proofs.Means.{and_true, or_right}
use Rattle.rules.proofs.Lists.{all_append}
use Rattle.store.specs.Sizes.{band_places}
use Rattle.store.specs.Places.{band_field, live_field}
use Rattle.store.specs.SaidProfile.{said_band}
use Rattle.search.specs.PlaceOf.{place_of}
use Rattle.linking.specs.EndPlaces.{end_places_of, end_places_from, end_places, noted, is_noted}

noted_append : (words is js : List ℕ) → noted words (is ++ js) ≡ noted (noted words is) js
noted_append words [] js = refl
noted_append words (i ∷ is) js = noted_append (set words i 1) is js

-- ---- one number

module _ (bands nodes words : List ℕ) (b : ℕ) where
  -- what noting the ends of number b comes to: whether all have a place, and the words then
  abbrev EndsNoted : Bool → List ℕ → Type 0
  EndsNoted right found = (right ≡ all says_yes (end_places_of bands nodes b)) × (found ≡ noted words (end_places_of bands nodes b))

  -- nothing is noted of a number that is not live ..
  pub not_live_noted : says_yes (band_field bands b live_field) ≡ false → EndsNoted true words
  unfolding end_places_of
  not_live_noted e = rw e (refl, refl)

  -- .. and of one that is, the places of both ends
  pub live_noted : {band : Band} {low high : ℕ} {low_placed high_placed : Bool} {more found : List ℕ}
      → says_yes (band_field bands b live_field) ≡ true
      → band ≡ said_band bands b
      → low ≡ place_of nodes band.low → high ≡ place_of nodes band.high
      → (low_placed ≡ says_yes low) × (more ≡ set words low 1)
      → (high_placed ≡ says_yes high) × (found ≡ set more high 1)
      → EndsNoted (low_placed && high_placed) found
  unfolding end_places_of
  live_noted {low = low} {high = high} e said l h at_low at_high =
      let ends : end_places_of bands nodes b ≡ low ∷ high ∷ [] = rw (e, l, h, said) in
      rw ends (
        both at_low.0 (at_high.0 ∙ sym (and_true (says_yes high))),
        at_high.1 ∙ ap (λ ws. set ws high 1) at_low.1,
      )

-- ---- number by number

-- when the numbers before b are done: what is left to note leaves what is to be noted in all, and what is left to test decides as all does
pub record Noting (bands nodes old words : List ℕ) (right : Bool) (b : ℕ) : Type 0 where
  notes : noted words (end_places_from bands nodes b (band_places - b)) ≡ noted old (end_places bands nodes)
  decides : right and all says_yes (end_places_from bands nodes b (band_places - b)) ≡ all says_yes (end_places bands nodes)

module _ (bands nodes old : List ℕ) where
  pub noting_begins : Noting bands nodes old old true 0
  unfolding ◌and◌ end_places
  noting_begins = record { notes = refl; decides = refl }

  module _ {words : List ℕ} {right : Bool} {b : ℕ} (h : Noting bands nodes old words right b) where
    pub noting_goes_on : {more : Bool} {found : List ℕ} → b < band_places → EndsNoted bands nodes words b more found
        → Noting bands nodes old found (right && more) (b + 1)
    unfolding ◌and◌
    noting_goes_on l n =
        record {
          notes = rw n.1 (sym (noted_append words here later) ∙ sym (ap (noted words) parts) ∙ h.notes);
          decides = rw n.0 (go right) ∙ ap (λ is. right and all says_yes is) (sym parts) ∙ h.decides;
        }
      where
        here : List ℕ
        here = end_places_of bands nodes b

        later : List ℕ
        later = end_places_from bands nodes (b + 1) (band_places - (b + 1))

        parts : end_places_from bands nodes b (band_places - b) ≡ here ++ later
        parts = let one_more : band_places - b ≡ suc (band_places - (b + 1)) = omega arith in rw (one_more, add-one)

        go : (t : Bool) → (t && all says_yes here) and all says_yes later ≡ t and all says_yes (here ++ later)
        go true = sym (all_append says_yes here later)
        go false = refl

    pub noting_ends : band_places ≤ b → (right ≡ all says_yes (end_places bands nodes)) × (words ≡ noted old (end_places bands nodes))
    noting_ends l = let none : band_places - b ≡ 0 = omega arith in (sym (and_true right) ∙ rw none at h.decides, rw none at h.notes)

-- ---- the places noted

-- a place is noted when it is among those that were to be, or was before
found_at : (words is : List ℕ) (i : ℕ) → i < length words → is_noted (noted words is) i ≡ member i is or is_noted words i
unfolding ◌or◌
found_at words [] i l = refl
found_at words (j ∷ is) i l = found_at (set words j 1) is i (rw (length-set words j 1) l) ∙ go (eqb i j) refl
  where
    go : (t : Bool) → eqb i j ≡ t → member i is or is_noted (set words j 1) i ≡ (t or member i is) or is_noted words i
    go true e =
        let same = eqb-true i j e in
        let there : get_or (set words j 1) i 0 ≡ 1 = rw same (get_or-set_same words j 1 0 (omega arith)) in
        rw there (or_right (member i is) true refl)
    go false e = rw (get_or-set_other words j i 1 0 (eqb-false i j e))

-- with nothing noted before, a place is noted exactly when it is among them
pub found_alone : (n i : ℕ) (is : List ℕ) → i < n → is_noted (noted (replicate n 0) is) i ≡ member i is
unfolding ◌or◌
found_alone n i is h =
    found_at (replicate n 0) is i (omega (arith, length-replicate {A = ℕ} n 0)) ∙ rw (get_or-replicate {A = ℕ} n i 0 0 h) (alone (member i is))
  where
    alone : (t : Bool) → t or false ≡ t
    alone true = refl
    alone false = refl

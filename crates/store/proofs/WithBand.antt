-- Band words laid anew at one number: with a band whose number was free they are the words of the bands with it among them; with its place freed,
-- those of the bands without that number.
-- Assumes nothing.
use Prim.Native.Nat.{ℕ, suc, ◌+◌, ◌-◌, ◌*◌, ◌/◌, ◌%◌, ◌≤◌, ◌<◌}
use mathlib.Core.Path.{◌≡◌, refl, sym, ◌∙◌, ap, subst}
use mathlib.Core.Bool.{Bool, true, false, not}
use mathlib.Core.Logic.{inl, ⊎_elim}
use mathlib.Core.List.{List, []}
use mathlib.Core.Option.{Option, none, some}
use native.Mathlib.Omega.{arith}
use lib.Dec.{eqb}
use lib.ListN.{length, get_or, length-set}
use lib.Seq.{get_or-set_same, get_or-set_other, ext_get_or}
use borrow.Author.Tests.{eqb-true, eqb-false}
use Rattle.rules.specs.Lists.{keep, first_of}
use Rattle.rules.specs.HallLine.{Band}
use Rattle.rules.specs.Profile.{has_number, band_numbered}
use Rattle.rules.specs.Changes.{with_band}
use Rattle.rules.proofs.Means.{Means, at_most_or_above, denied, not_means}
use Rattle.rules.proofs.Lists.{Each, keep_again, in_kept, keep_placed}
use Rattle.rules.proofs.Profile.{NumbersAsc, has_number_means, numbered, numbered_none}
use Rattle.rules.proofs.Changes.{in_with_band, with_band_ascends}
use Rattle.store.specs.Sizes.{band_places, band_place_words}
use Rattle.store.specs.Places.{band_field, with_band_field, reserve_field}
use Rattle.store.specs.LaidBands.{laid_band_field, laid_bands}
use Rattle.store.specs.WithBand.{with_fields, with_place_of}
use Rattle.store.proofs.Padded.{zeros_read}
use Rattle.store.proofs.LaidBands.{laid_bands_length, laid_band_word, place_word}

-- ---- the place of a number, field by field

-- the two words after a band's own are 0
reserve_zero : (o : Option Band) (f : ℕ) → reserve_field ≤ f → laid_band_field o f ≡ 0
reserve_zero none f a = refl
reserve_zero (some b) f a =
    let past : suc (suc (suc (suc (suc (suc (f - reserve_field)))))) ≡ f = omega arith in
    subst (λ g. laid_band_field (some b) g ≡ 0) past (zeros_read [] 2 (f - reserve_field))

module _ (b : ℕ) where
  -- word q is one of b's fields, from field f on
  abbrev FieldFrom : ℕ → ℕ → Type 0
  FieldFrom f q = (b * band_place_words + f ≤ q) × (q < b * band_place_words + reserve_field)

  -- a word of b's place that is no field of b's is past them
  past_fields : (q : ℕ) → q / band_place_words ≡ b → (FieldFrom 0 q → ⊥) → reserve_field ≤ q % band_place_words
  past_fields q here off = ⊎_elim (λ h. h) (λ h. absurd (off (omega arith, omega arith))) (at_most_or_above reserve_field (q % band_place_words))

-- old and new bands that differ at number b alone
module _ (b : ℕ) (old new : List Band) (within : b < band_places) (others : (n : ℕ) → (n ≡ b → ⊥) → band_numbered n new ≡ band_numbered n old) where
  -- as many words as the new bands have, and the same but for b's fields from field f on
  abbrev LaidBut : ℕ → List ℕ → Type 0
  LaidBut f words =
      (length words ≡ band_places * band_place_words)
      × ((q : ℕ) → q < band_places * band_place_words → (FieldFrom b f q → ⊥) → get_or words q 0 ≡ get_or (laid_bands new) q 0)

  laid_before : LaidBut 0 (laid_bands old)
  laid_before =
      (laid_bands_length old, λ q l off. laid_band_word old q l ∙ same q off (eqb (q / band_place_words) b) refl ∙ sym (laid_band_word new q l))
    where
      same : (q : ℕ) → (FieldFrom b 0 q → ⊥) → (t : Bool) → eqb (q / band_place_words) b ≡ t
          → laid_band_field (band_numbered (q / band_place_words) old) (q % band_place_words)
          ≡ laid_band_field (band_numbered (q / band_place_words) new) (q % band_place_words)
      same q off true e =
          let past = past_fields b q (eqb-true (q / band_place_words) b e) off in
          reserve_zero (band_numbered (q / band_place_words) old) (q % band_place_words) past
          ∙ sym (reserve_zero (band_numbered (q / band_place_words) new) (q % band_place_words) past)
      same q off false e = ap (λ o. laid_band_field o (q % band_place_words)) (sym (others (q / band_place_words) (eqb-false (q / band_place_words) b e)))

  module _ (o : Option Band) (told : band_numbered b new ≡ o) where
    -- each field stored leaves one less to store
    laid_next : (f : ℕ) → f < reserve_field → (words : List ℕ) → LaidBut f words → LaidBut (suc f) (with_band_field words b f (laid_band_field o f))
    unfolding with_band_field band_field
    laid_next f k words h = let at = b * band_place_words + f in (
      length-set words at (laid_band_field o f) ∙ h.0,
      λ q l off. go q l off (eqb q at) refl,
    )
      where
        go : (q : ℕ) → q < band_places * band_place_words → (FieldFrom b (suc f) q → ⊥) → (t : Bool) → eqb q (b * band_place_words + f) ≡ t
            → get_or (with_band_field words b f (laid_band_field o f)) q 0 ≡ get_or (laid_bands new) q 0
        go q l off true e =
            let here = eqb-true q (b * band_place_words + f) e in
            rw here
            (get_or-set_same words (b * band_place_words + f) (laid_band_field o f) 0 (omega (arith, h.0))
            ∙ sym (place_word new b within o told f (omega arith)))
        go q l off false e =
            let beside = eqb-false q (b * band_place_words + f) e in
            get_or-set_other words (b * band_place_words + f) q (laid_band_field o f) 0 beside ∙ h.1 q l (λ a. off (omega arith, a.1))

    laid_after : LaidBut reserve_field (with_place_of o b (laid_bands old))
    unfolding with_place_of with_fields
    laid_after =
        laid_next 5 (omega arith) _
        (laid_next 4 (omega arith) _
        (laid_next 3 (omega arith) _
        (laid_next 2 (omega arith) _ (laid_next 1 (omega arith) _ (laid_next 0 (omega arith) (laid_bands old) laid_before)))))

    -- b's place laid anew turns the words of the old bands into those of the new
    place_laid : with_place_of o b (laid_bands old) ≡ laid_bands new
    place_laid =
        let size = laid_after.0 in
        ext_get_or 0 (with_place_of o b (laid_bands old)) (laid_bands new) (size ∙ sym (laid_bands_length new))
        (λ q l. laid_after.1 q (omega (arith, size)) (λ a. absurd (omega arith)))

-- ---- a band among the others, and a number without its band

pub band_laid_too : (b : Band) (bs : List Band) → NumbersAsc 0 bs → Each (λ c. c.number ≡ b.number → ⊥) bs → b.number < band_places
    → with_place_of (some b) b.number (laid_bands bs) ≡ laid_bands (with_band b bs)
unfolding with_band band_numbered
band_laid_too b bs ascend free within =
    place_laid b.number bs (with_band b bs) within
    (λ n off. ap first_of (keep_placed (λ c. c.number) (has_number n) b ((denied (has_number_means n b)).test (λ e. off (sym e))) bs))
    (some b)
    (numbered 0 (with_band b bs) (with_band_ascends b 0 bs (omega arith) free ascend) b ((in_with_band b b bs).1 (inl refl)))

pub place_freed : (number : ℕ) (bs : List Band) → number < band_places
    → with_place_of none number (laid_bands bs) ≡ laid_bands (keep (λ b. not (has_number number b)) bs)
unfolding band_numbered
place_freed number bs within =
    let others_kept : (b : Band) → Means (not (has_number number b)) (b.number ≡ number → ⊥) = λ b. not_means (denied (has_number_means number b)) in
    place_laid number bs (keep (λ b. not (has_number number b)) bs) within
    (λ n off. ap first_of (keep_again (λ b. not (has_number number b)) (has_number n) bs
    (λ b i e. (others_kept b).test (λ p. off (sym ((has_number_means n b).fact e) ∙ p)))))
    none
    ((numbered_none number (keep (λ b. not (has_number number b)) bs)).1 (λ b i. ((in_kept others_kept b bs).0 i).1))

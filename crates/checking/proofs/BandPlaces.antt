-- The test of the band places: it passes exactly when each live band is right and the band words are those of the bands that they say.
-- Assumes nothing.
use Prim.Native.Nat.{ℕ, zero, suc, ◌+◌, ◌-◌, ◌*◌, ◌/◌, ◌%◌, ◌≤◌, ◌<◌}
use mathlib.Core.Path.{◌≡◌, refl, sym, ◌∙◌, ap, subst}
use mathlib.Core.Bool.{Bool, true, false}
use mathlib.Core.Logic.{◌⊎◌, inl, inr, ⊎_elim}
use mathlib.Core.List.{List}
use mathlib.Core.Option.{some}
use native.Mathlib.Nat.{eq-or-lt_of_le}
use native.Mathlib.Omega.{arith}
use lib.ListN.{length, get_or}
use lib.Seq.{ext_get_or}
use Rattle.rules.specs.Connectives.{one_if, says_yes}
use Rattle.rules.specs.Profile.{band_numbered}
use Rattle.rules.specs.BoxSaysNo.{band_fault}
use Rattle.rules.proofs.Means.{Means, never, reworded, and_means, or_means, le_means, eq_means}
use Rattle.rules.proofs.Lists.{Each, all_from_means}
use Rattle.rules.proofs.Sums.{at_most_one}
use Rattle.rules.proofs.BoxSaysNo.{BandRight, band_fault_zero}
use Rattle.store.specs.Sizes.{band_place_words, band_places}
use Rattle.store.specs.Places.{band_field, live_field, low_closed_field, high_closed_field, reserve_field}
use Rattle.store.specs.SaidProfile.{said_band, said_bands}
use Rattle.store.specs.LaidBands.{laid_band_field, laid_bands}
use Rattle.store.proofs.SaidBands.{says_live, band_where, in_said_bands}
use Rattle.store.proofs.LaidBands.{laid_bands_length, laid_band_word, laid_band_field_lem}
use Rattle.checking.specs.Zeros.{zeros_between}
use Rattle.checking.specs.BandPlaces.{band_place_free, band_place_taken, band_place_right, band_places_right}
use Rattle.checking.proofs.FreeWords.{zeros_mean}

-- a word of 0 or 1 is told by whether it says yes
one_if_yes : (w : ℕ) → w ≤ 1 → one_if (says_yes w) ≡ w
one_if_yes zero h = refl
one_if_yes (suc zero) h = refl
one_if_yes (suc (suc w)) h = absurd (omega arith)

module _ (bands : List ℕ) (b : ℕ) where
  -- the fields of the place from field g on are 0
  abbrev FieldsFree : ℕ → Type 0
  FieldsFree g = (f : ℕ) → g ≤ f → f < band_place_words → band_field bands b f ≡ 0

  fields_free_mean : (g from : ℕ) → from ≡ b * band_place_words + g
      → Means (zeros_between from (b * band_place_words + band_place_words) bands) (FieldsFree g)
  unfolding band_field
  fields_free_mean g from e =
      reworded (zeros_mean from (b * band_place_words + band_place_words) bands)
      (λ h f a l. h (b * band_place_words + f) (omega arith) (omega arith))
      (λ h q a l.
      let at : b * band_place_words + (q - b * band_place_words) ≡ q = omega arith in
      subst (λ i. get_or bands i 0 ≡ 0) at (h (q - b * band_place_words) (omega arith) (omega arith)))

  free_means : Means (band_place_free bands b) (FieldsFree 0)
  unfolding band_place_free
  free_means = fields_free_mean 0 (b * band_place_words) (omega arith)

  -- the two words after the band's own
  reserve_means : Means (zeros_between (b * band_place_words + reserve_field) (b * band_place_words + band_place_words) bands)
      ((band_field bands b reserve_field ≡ 0) × (band_field bands b (suc reserve_field) ≡ 0))
  reserve_means =
      reworded (fields_free_mean reserve_field (b * band_place_words + reserve_field) refl)
      (λ h. (h reserve_field (omega arith) (omega arith), h (suc reserve_field) (omega arith) (omega arith)))
      (λ z f a l.
      let free : (g : ℕ) → g ≡ f → band_field bands b g ≡ 0 → band_field bands b f ≡ 0 = λ g e. subst (λ i. band_field bands b i ≡ 0) e in
      ⊎_elim (λ e. free reserve_field e z.0) (λ k. free (suc reserve_field) (omega arith) z.1) (eq-or-lt_of_le a))

  -- the place has a right band
  record LivePlace : Type 0 where
    live_one : band_field bands b live_field ≡ 1
    low_told : band_field bands b low_closed_field ≤ 1
    high_told : band_field bands b high_closed_field ≤ 1
    reserve_free : (band_field bands b reserve_field ≡ 0) × (band_field bands b (suc reserve_field) ≡ 0)
    band_right : BandRight (said_band bands b)

  live_means : Means (band_place_taken bands b) LivePlace
  unfolding band_place_taken
  live_means =
      reworded
      (and_means (eq_means (band_field bands b live_field) 1)
      (and_means (le_means (band_field bands b low_closed_field) 1)
      (and_means (le_means (band_field bands b high_closed_field) 1)
      (and_means reserve_means
      (reworded (eq_means (band_fault (said_band bands b)) 0) (band_fault_zero (said_band bands b)).0 (band_fault_zero (said_band bands b)).1)))))
      (λ h. record {
        live_one = h.0;
        low_told = h.1.0;
        high_told = h.1.1.0;
        reserve_free = h.1.1.1.0;
        band_right = h.1.1.1.1;
      })
      (λ p. (p.live_one, (p.low_told, (p.high_told, (p.reserve_free, p.band_right)))))

  -- the words of a live place are those of its band
  live_words : LivePlace → (f : ℕ) → f < band_place_words → band_field bands b f ≡ laid_band_field (some (said_band bands b)) f
  unfolding said_band
  live_words p zero l = p.live_one
  live_words p (suc zero) l = refl
  live_words p (suc (suc zero)) l = refl
  live_words p (suc (suc (suc zero))) l = refl
  live_words p (suc (suc (suc (suc zero)))) l = sym (one_if_yes (band_field bands b low_closed_field) p.low_told)
  live_words p (suc (suc (suc (suc (suc zero))))) l = sym (one_if_yes (band_field bands b high_closed_field) p.high_told)
  live_words p (suc (suc (suc (suc (suc (suc zero)))))) l = p.reserve_free.0
  live_words p (suc (suc (suc (suc (suc (suc (suc zero))))))) l = p.reserve_free.1
  live_words p (suc (suc (suc (suc (suc (suc (suc (suc f)))))))) l = absurd (omega arith)

  -- .. and a place with such words, whose band is right, is live
  words_live : ((f : ℕ) → f < band_place_words → band_field bands b f ≡ laid_band_field (some (said_band bands b)) f) → BandRight (said_band bands b) → LivePlace
  words_live words right =
      record {
        live_one = words live_field (omega arith);
        low_told = omega (arith, words low_closed_field (omega arith), at_most_one (said_band bands b).low_closed);
        high_told = omega (arith, words high_closed_field (omega arith), at_most_one (said_band bands b).high_closed);
        reserve_free = (words reserve_field (omega arith), words (suc reserve_field) (omega arith));
        band_right = right;
      }

  -- the place is as the bands that the words say have it
  record PlaceStands : Type 0 where
    right_if_live : says_live bands b ≡ true → BandRight (said_band bands b)
    words_laid : (f : ℕ) → f < band_place_words → band_field bands b f ≡ laid_band_field (band_numbered b (said_bands bands)) f

  module _ (h : b < band_places) where
    place_means : Means (band_place_right bands b) PlaceStands
    unfolding band_place_right
    place_means = reworded (or_means free_means live_means) (⊎_elim free_stands live_stands) (stands (says_live bands b) refl)
      where
        free_stands : FieldsFree 0 → PlaceStands
        free_stands z =
            let off : says_live bands b ≡ false = ap says_yes (z live_field (omega arith) (omega arith)) in
            record {
              right_if_live = λ e. never (sym off ∙ e);
              words_laid = λ f l. z f (omega arith) l ∙ sym (ap (λ o. laid_band_field o f) (band_where bands b h false off));
            }

        live_stands : LivePlace → PlaceStands
        live_stands p =
            record {
              right_if_live = λ e. p.band_right;
              words_laid = λ f l. live_words p f l ∙ sym (ap (λ o. laid_band_field o f) (band_where bands b h true (ap says_yes p.live_one)));
            }

        stands : (t : Bool) → says_live bands b ≡ t → PlaceStands → FieldsFree 0 ⊎ LivePlace
        stands true e p =
            inr (words_live (λ f l. p.words_laid f l ∙ ap (λ o. laid_band_field o f) (band_where bands b h true e)) (p.right_if_live e))
        stands false e p = inl (λ f a l. p.words_laid f l ∙ ap (λ o. laid_band_field o f) (band_where bands b h false e))

module _ (bands : List ℕ) (whole : length bands ≡ band_places * band_place_words) where
  abbrev AllStand : Type 0
  AllStand = (b : ℕ) → 0 ≤ b → b < 0 + band_places → PlaceStands bands b

  stand_right : AllStand → Each BandRight (said_bands bands)
  stand_right h d i =
      let s = (in_said_bands bands d).0 i in
      subst BandRight (sym s.2.1) ((h s.0 (omega arith) (omega arith)).right_if_live s.2.0)

  stand_laid : AllStand → bands ≡ laid_bands (said_bands bands)
  unfolding band_field
  stand_laid h =
      ext_get_or 0 bands (laid_bands (said_bands bands)) (whole ∙ sym (laid_bands_length (said_bands bands)))
      (λ q l.
      let place : q / band_place_words * band_place_words + q % band_place_words ≡ q = omega arith in
      ap (λ i. get_or bands i 0) (sym place)
      ∙ (h (q / band_place_words) (omega arith) (omega arith)).words_laid (q % band_place_words) (omega arith)
      ∙ sym (laid_band_word (said_bands bands) q (omega arith)))

  laid_stand : Each BandRight (said_bands bands) → bands ≡ laid_bands (said_bands bands) → AllStand
  laid_stand right laid b a l =
      record {
        right_if_live = λ e. right (said_band bands b) ((in_said_bands bands (said_band bands b)).1 (b, omega arith, (e, refl)));
        words_laid = λ f k. ap (λ w. band_field w b f) laid ∙ laid_band_field_lem (said_bands bands) b f (omega arith) k;
      }

  pub band_places_mean : Means (band_places_right bands) (Each BandRight (said_bands bands) × (bands ≡ laid_bands (said_bands bands)))
  unfolding band_places_right
  band_places_mean =
      reworded (all_from_means 0 band_places (λ b a l. place_means bands b (omega arith)))
      (λ h. (stand_right h, stand_laid h))
      (λ p. laid_stand p.0 p.1)

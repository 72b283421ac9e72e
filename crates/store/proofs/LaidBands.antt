-- The band words of a profile, place by place; and what they say is the bands that were laid.
-- Assumes nothing.
use Prim.Native.Nat.{ℕ, zero, suc, ◌+◌, ◌*◌, ◌/◌, ◌%◌, ◌≤◌, ◌<◌}
use mathlib.Core.Path.{◌≡◌, refl, sym, ◌∙◌, ap, subst}
use mathlib.Core.Bool.{false}
use mathlib.Core.List.{List, []}
use mathlib.Core.Option.{Option, none, some}
use native.Mathlib.Nat.{zero-add}
use native.Mathlib.Omega.{arith}
use lib.ListN.{length, get_or, replicate}
use Rattle.rules.specs.Connectives.{says_yes}
use Rattle.rules.specs.HallLine.{Band, band_of, highest_band_number}
use Rattle.rules.specs.Profile.{band_numbered}
use Rattle.rules.proofs.Connectives.{one_if_says}
use Rattle.rules.proofs.Means.{never}
use Rattle.rules.proofs.Lists.{In, Each, ascends_by_members, made_length, made_at}
use Rattle.rules.proofs.Profile.{NumbersAsc, numbered_in, numbered}
use Rattle.store.specs.Sizes.{band_places, band_place_words}
use Rattle.store.specs.Places.{band_field, live_field, scope_field, low_field, high_field, low_closed_field, high_closed_field}
use Rattle.store.specs.SaidProfile.{said_band, said_bands}
use Rattle.store.specs.LaidBands.{laid_band_field, laid_bands_from, laid_bands}
use Rattle.store.proofs.SaidBands.{says_live, SaysBand, said_bands_ascend, in_said_bands}

laid_from_none : (q m : ℕ) → laid_bands_from [] q m ≡ replicate m 0
unfolding band_numbered
laid_from_none q zero = refl
laid_from_none q (suc m) = rw (laid_from_none (suc q) m)

pub laid_bands_none : laid_bands [] ≡ replicate (band_places * band_place_words) 0
unfolding laid_bands
laid_bands_none = laid_from_none 0 (band_places * band_place_words)

module _ (bs : List Band) where
  -- word q by its place and its field
  word_at : ℕ → ℕ
  word_at q = laid_band_field (band_numbered (q / band_place_words) bs) (q % band_place_words)

  pub laid_bands_length : length (laid_bands bs) ≡ band_places * band_place_words
  unfolding laid_bands word_at
  laid_bands_length = made_length word_at (laid_bands_from bs) (λ q. refl) (λ q m. refl) 0 (band_places * band_place_words)

  pub laid_band_word : (q : ℕ) → q < band_places * band_place_words
      → get_or (laid_bands bs) q 0 ≡ laid_band_field (band_numbered (q / band_place_words) bs) (q % band_place_words)
  unfolding laid_bands word_at
  laid_band_word q h =
      made_at word_at (laid_bands_from bs) (λ i. refl) (λ i m. refl) 0 0 (band_places * band_place_words) q h ∙ ap word_at (zero-add q)

  -- the same by number and field
  pub laid_band_field_lem : (b f : ℕ) → b < band_places → f < band_place_words → band_field (laid_bands bs) b f ≡ laid_band_field (band_numbered b bs) f
  unfolding band_field
  laid_band_field_lem b f h l =
      let place : (b * 8 + f) / 8 ≡ b = omega arith in
      let field : (b * 8 + f) % 8 ≡ f = omega arith in
      laid_band_word (b * 8 + f) (omega arith) ∙ (λ i. laid_band_field (band_numbered (place i) bs) (field i))

module _ (bs : List Band) (b : ℕ) (h : b < band_places) where
  -- a field of the place by the band that its number names
  pub place_word : (o : Option Band) → band_numbered b bs ≡ o → (f : ℕ) → f < band_place_words → band_field (laid_bands bs) b f ≡ laid_band_field o f
  place_word o e f l = laid_band_field_lem bs b f h l ∙ ap (λ x. laid_band_field x f) e

  live_place_says : (d : Band) → band_numbered b bs ≡ some d → SaysBand (laid_bands bs) d b
  unfolding said_band
  live_place_says d e =
      let word = place_word (some d) e in
      let number = sym (numbered_in b bs d e).1 in
      let scope = word scope_field (omega arith) in
      let low = word low_field (omega arith) in
      let high = word high_field (omega arith) in
      let low_closed = ap says_yes (word low_closed_field (omega arith)) ∙ one_if_says d.low_closed in
      let high_closed = ap says_yes (word high_closed_field (omega arith)) ∙ one_if_says d.high_closed in
      (ap says_yes (word live_field (omega arith)), sym (λ i. band_of (number i) (scope i) (low i) (high i) (low_closed i) (high_closed i)))

  free_place_says : band_numbered b bs ≡ none → says_live (laid_bands bs) b ≡ false
  free_place_says e = ap says_yes (place_word none e live_field (omega arith))

module _ (bs : List Band) (ascend : NumbersAsc 0 bs) (in_range : Each (λ d. d.number ≤ highest_band_number) bs) where
  laid_in_said : (d : Band) → In d bs → In d (said_bands (laid_bands bs))
  laid_in_said d i =
      let h : d.number < band_places = omega (arith, in_range d i) in
      (in_said_bands (laid_bands bs) d).1 (d.number, h, live_place_says bs d.number h d (numbered 0 bs ascend d i))

  said_in_laid : (d : Band) → In d (said_bands (laid_bands bs)) → In d bs
  said_in_laid d i = let s = (in_said_bands (laid_bands bs) d).0 i in go s.0 s.1 s.2 (band_numbered s.0 bs) refl
    where
      go : (b : ℕ) → b < band_places → SaysBand (laid_bands bs) d b → (o : Option Band) → band_numbered b bs ≡ o → In d bs
      go b h s none e = never (sym (free_place_says bs b h e) ∙ s.0)
      go b h s (some x) e = subst (λ y. In y bs) ((live_place_says bs b h x e).1 ∙ sym s.1) (numbered_in b bs x e).0

  -- what the laid words say is what was laid
  pub laid_bands_say : said_bands (laid_bands bs) ≡ bs
  laid_bands_say =
      let said = laid_bands bs in
      ascends_by_members (λ d. d.number) 0 (said_bands said) bs (said_bands_ascend said) ascend (λ d. (said_in_laid d, laid_in_said d))

-- The bands that any words say, sound or not: they ascend by number, and the band of a number is the one that its place says.
-- Assumes nothing.
use Prim.Native.Nat.{ℕ, zero, suc, ◌+◌, ◌≤◌, ◌<◌}
use mathlib.Core.Path.{◌≡◌, refl, sym, ◌∙◌, ap, subst}
use mathlib.Core.Bool.{Bool, true, false, cond}
use mathlib.Core.Logic.{◌↔◌, ⊎_map}
use mathlib.Core.List.{List}
use mathlib.Core.Option.{none, some}
use native.Mathlib.Omega.{arith}
use Rattle.rules.specs.Connectives.{says_yes}
use Rattle.rules.specs.Lists.{add_if}
use Rattle.rules.specs.HallLine.{Band}
use Rattle.rules.specs.Profile.{is_live, band_numbered}
use Rattle.rules.proofs.Means.{never, itself, same_means}
use Rattle.rules.proofs.Lists.{In, in_add_if, some_lane_up, ascends_lower}
use Rattle.rules.proofs.Profile.{NumbersAsc, is_live_means, numbered_none, numbered}
use Rattle.store.specs.Sizes.{band_places}
use Rattle.store.specs.Places.{band_field, live_field}
use Rattle.store.specs.SaidProfile.{said_band, said_bands_from, said_bands}

module _ (words : List ℕ) where
  -- the place of number b says that the number is live
  abbrev pub says_live : ℕ → Bool
  says_live b = says_yes (band_field words b live_field)

  -- .. and that this is its band
  abbrev pub SaysBand : Band → ℕ → Type 0
  SaysBand d b = (says_live b ≡ true) × (d ≡ said_band words b)

  said_number : (b : ℕ) → (said_band words b).number ≡ b
  unfolding said_band
  said_number b = refl

  said_from_ascend : (b m : ℕ) → NumbersAsc b (said_bands_from words b m)
  said_from_ascend b zero = tt
  said_from_ascend b (suc m) = go (says_live b) (said_from_ascend (suc b) m)
    where
      go : (t : Bool) → NumbersAsc (suc b) (said_bands_from words (suc b) m) → NumbersAsc b (add_if t (said_band words b) (said_bands_from words (suc b) m))
      go true a = rw said_number (omega arith, a)
      go false a = ascends_lower (λ d. d.number) b (suc b) (said_bands_from words (suc b) m) (omega arith) a

  -- numbers are gone through as lanes are, hence the law of lanes
  in_said_from : (d : Band) (b m : ℕ) → In d (said_bands_from words b m) ↔ ((n : ℕ) × (b ≤ n) × (n < b + m) × SaysBand d n)
  in_said_from d b zero = (λ i. absurd i, λ s. absurd (omega arith))
  in_said_from d b (suc m) =
      let here = in_add_if (says_live b) (said_band words b) d (said_bands_from words (suc b) m) in
      let later = in_said_from d (suc b) m in (
        λ i. (some_lane_up b m).1 (⊎_map (λ p. p) later.0 (here.0 i)),
        λ s. here.1 (⊎_map (λ p. p) later.1 ((some_lane_up b m).0 s)),
      )

  pub said_bands_ascend : NumbersAsc 0 (said_bands words)
  unfolding said_bands
  said_bands_ascend = said_from_ascend 0 band_places

  -- a band is said exactly when the place of some number says it
  pub in_said_bands : (d : Band) → In d (said_bands words) ↔ ((b : ℕ) × (b < band_places) × SaysBand d b)
  unfolding said_bands
  in_said_bands d = (
    λ i. let s = (in_said_from d 0 band_places).0 i in (s.0, omega arith, s.3),
    λ s. (in_said_from d 0 band_places).1 (s.0, omega arith, omega arith, s.2),
  )

  -- .. and no other place than its number's
  said_by_own_place : (d : Band) → In d (said_bands words) → says_live d.number ≡ true
  said_by_own_place d i =
      let s = (in_said_bands d).0 i in
      subst (λ n. says_live n ≡ true) (sym (ap (λ x. x.number) s.2.1 ∙ said_number s.0)) s.2.0

  -- .. so its number has a place
  pub said_number_right : (d : Band) → In d (said_bands words) → d.number < band_places
  unfolding said_band
  said_number_right d i = let s = (in_said_bands d).0 i in let e = ap (λ x. x.number) s.2.1 in omega arith

  module _ (b : ℕ) (h : b < band_places) where
    live_is_in : says_live b ≡ true → In (said_band words b) (said_bands words)
    live_is_in e = (in_said_bands (said_band words b)).1 (b, h, (e, refl))

    pub band_by_place : band_numbered b (said_bands words) ≡ cond (says_live b) (some (said_band words b)) none
    unfolding said_band
    band_by_place = go (says_live b) refl
      where
        go : (t : Bool) → says_live b ≡ t → band_numbered b (said_bands words) ≡ cond t (some (said_band words b)) none
        go true e = numbered 0 (said_bands words) said_bands_ascend (said_band words b) (live_is_in e)
        go false e =
            (numbered_none b (said_bands words)).1 (λ d i q. never (sym e ∙ ap says_live (sym q) ∙ said_by_own_place d i))

    -- .. so the place's own band where it says that the number is live, and none where it says that it is not
    pub band_where : (t : Bool) → says_live b ≡ t → band_numbered b (said_bands words) ≡ cond t (some (said_band words b)) none
    band_where t e = band_by_place ∙ ap (λ u. cond u (some (said_band words b)) none) e

    pub live_by_place : is_live b (said_bands words) ≡ says_live b
    live_by_place =
        same_means
        (is_live_means b (said_bands words))
        (itself (says_live b))
        (λ s. ap says_live (sym s.2) ∙ said_by_own_place s.0 s.1)
        (λ e. (said_band words b, live_is_in e, said_number b))

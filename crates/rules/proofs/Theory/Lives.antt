-- Which bands live after a change, by the band readout. Where each band that is not so is live in both of two profiles or in neither, a number that no
-- live band that is so has names the same band in both, is live in both or in neither, and reads the same. A live band is read as it is, and a number
-- that is not live is refused by 9.
-- Assumes nothing.
use Prim.Native.Nat.{ℕ, ◌≤◌}
use mathlib.Core.Path.{◌≡◌, refl, sym, ◌∙◌, ap}
use mathlib.Core.Bool.{Bool, true}
use mathlib.Core.Option.{Option, none, some}
use native.Mathlib.Omega.{arith}
use Rattle.rules.specs.HallLine.{Band, highest_band_number}
use Rattle.rules.specs.Profile.{Profile, band_numbered, is_live}
use Rattle.rules.specs.Readouts.{band_read_of, band_read}
use Rattle.rules.specs.BoxSaysNo.{saying, band_read_refusal, band_read_answer}
use Rattle.rules.proofs.Means.{same_means}
use Rattle.rules.proofs.Lists.{In, Each}
use Rattle.rules.proofs.Profile.{SameBut, NoneBy, NumbersAsc, numbered, numbered_in, numbered_none, is_live_means}
use Rattle.rules.proofs.Readouts.{band_read_lem}
use Rattle.rules.proofs.BoxSaysNo.{band_accepted, band_gives_9, accepted_answers, refused_zeros}

-- ---- a number of no band that has come or gone

module _ {P : Band → Type 0} (p q : Profile) (same : SameBut P p q) (number : ℕ) (none_before : NoneBy P number p) (none_after : NoneBy P number q) where
  pub live_same : is_live number p.bands ≡ is_live number q.bands
  live_same =
      same_means (is_live_means number p.bands) (is_live_means number q.bands)
      (λ s. (s.0, (same s.0 (none_before s.0 s.1 s.2)).0 s.1, s.2))
      (λ s. (s.0, (same s.0 (none_after s.0 s.1 s.2)).1 s.1, s.2))

  module _ (ascend : NumbersAsc 0 q.bands) where
    pub names_same : band_numbered number p.bands ≡ band_numbered number q.bands
    names_same = go (band_numbered number p.bands) refl
      where
        go : (o : Option Band) → band_numbered number p.bands ≡ o → o ≡ band_numbered number q.bands
        go none e =
            sym ((numbered_none number q.bands).1
            (λ b i r. (numbered_none number p.bands).0 e b ((same b (none_after b i r)).1 i) r))
        go (some d) e =
            let k = numbered_in number p.bands d e in
            sym (ap (λ x. band_numbered x q.bands) (sym k.1) ∙ numbered 0 q.bands ascend d ((same d (none_before d k.0 k.1)).0 k.0))

    pub reads_same : (sizes_right : Bool) → band_read_answer sizes_right p number ≡ band_read_answer sizes_right q number
    unfolding band_read_answer band_read_refusal band_read
    reads_same sizes_right = rw (names_same, live_same)

-- ---- a band that lives, and a number that does not

module _ (p : Profile) where
  -- a live band is read as it is ..
  pub live_read : NumbersAsc 0 p.bands → (b : Band) → In b p.bands → b.number ≤ highest_band_number
      → band_read_answer true p b.number ≡ saying 0 (band_read_of (some b))
  unfolding band_read_answer
  live_read ascend b i h =
      accepted_answers (band_read_refusal true p b.number) (band_read_of none) (band_read p b.number)
      ((band_accepted true p b.number).1 (refl, (h, (b, i, refl))))
      ∙ ap (saying 0) (band_read_lem p 0 ascend b i)

  -- .. and a number that is not live is refused by 9
  pub not_live_read : (number : ℕ) → number ≤ highest_band_number → Each (λ b. b.number ≡ number → ⊥) p.bands
      → band_read_answer true p number ≡ saying 9 (band_read_of none)
  unfolding band_read_answer
  not_live_read number h free =
      let given = (band_gives_9 true p number).1 (refl, (h, free)) in
      refused_zeros (band_read_refusal true p number) (band_read_of none) (band_read p number) (λ e. omega (arith, given, e))
      ∙ ap (λ r. saying r (band_read_of none)) given

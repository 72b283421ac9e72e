-- The band readout on memory of right sizes, sound or not, in plain words: a live band is read as it stands, and of the numbers up
-- to 1,023 9 is given exactly where one is not live.
-- Assumes nothing.
use Prim.Native.Nat.{ℕ, ◌≤◌}
use mathlib.Core.Path.{◌≡◌, refl, ◌∙◌, ap}
use mathlib.Core.Bool.{true}
use mathlib.Core.Logic.{◌↔◌}
use mathlib.Core.Option.{none, some}
use native.Mathlib.Omega.{arith}
use Rattle.rules.specs.HallLine.{highest_band_number}
use Rattle.rules.specs.Readouts.{band_read_of, band_read}
use Rattle.rules.specs.BoxSaysNo.{saying, band_read_refusal, band_read_answer}
use Rattle.rules.proofs.Lists.{Each}
use Rattle.rules.proofs.Readouts.{band_read_lem}
use Rattle.rules.proofs.BoxSaysNo.{band_accepted, band_gives_9, accepted_answers}
use Rattle.store.specs.Sizes.{sizes_right}
use Rattle.store.specs.Memory.{Memory, lengths_in}
use Rattle.store.specs.SaidProfile.{said_profile}
use Rattle.store.proofs.SaidBands.{said_bands_ascend, said_number_right}
use Rattle.asking.specs.BandCall.{band_in}
use Rattle.asking.proofs.BandOnAny.{band_on_any}

module _ (m : Memory) (right : sizes_right (lengths_in m) ≡ true) where
  answers : (number : ℕ) → band_in m number ≡ band_read_answer true (said_profile m) number
  answers number = band_on_any m number ∙ ap (λ r. band_read_answer r (said_profile m) number) right

  pub band_exact : Each (λ b. band_in m b.number ≡ saying 0 (band_read_of (some b))) (said_profile m).bands
  unfolding band_read_answer said_profile
  band_exact b i =
      let p = said_profile m in
      let accepted = (band_accepted true p b.number).1 (refl, (omega (arith, said_number_right m.bands b i), (b, i, refl))) in
      answers b.number
      ∙ accepted_answers (band_read_refusal true p b.number) (band_read_of none) (band_read p b.number) accepted
      ∙ ap (saying 0) (band_read_lem p 0 (said_bands_ascend m.bands) b i)

  pub band_refused_9 : (number : ℕ) → number ≤ highest_band_number
      → ((band_in m number).refusal ≡ 9) ↔ Each (λ b. b.number ≡ number → ⊥) (said_profile m).bands
  unfolding band_read_answer
  band_refused_9 number h =
      let given = band_gives_9 true (said_profile m) number in
      rw (answers number) (λ e. (given.0 e).1.1, λ n. given.1 (refl, (h, n)))

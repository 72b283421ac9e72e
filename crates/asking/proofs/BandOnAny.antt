-- The band readout on any memory, sound or not, is the rules' own on the profile that the words say: each number has its own place.
-- Assumes nothing.
use Prim.Native.Nat.{ℕ, ◌<◌}
use mathlib.Core.Path.{◌≡◌, refl, sym, ◌∙◌}
use mathlib.Core.Bool.{Bool, true, false}
use mathlib.Core.Option.{none, some}
use native.Mathlib.Omega.{arith}
use lib.Dec.{ltb}
use borrow.Author.Tests.{ltb-false}
use Rattle.rules.specs.HallLine.{highest_band_number}
use Rattle.rules.specs.Readouts.{band_read_of, band_read}
use Rattle.rules.specs.BoxSaysNo.{band_read_refusal, band_read_answer}
use Rattle.rules.proofs.BoxSaysNo.{band_accepted, same_answered}
use Rattle.rules.proofs.Profile.{is_live_means}
use Rattle.store.specs.Sizes.{band_places, sizes_right}
use Rattle.store.specs.Memory.{Memory, lengths_in}
use Rattle.store.specs.SaidProfile.{said_band, said_profile}
use Rattle.store.proofs.SaidBands.{band_by_place, live_by_place}
use Rattle.asking.specs.BandCall.{band_refusal_in, band_in}

module _ (m : Memory) (number : ℕ) where
  abbrev right : Bool
  right = sizes_right (lengths_in m)

  -- the same lines refuse: past the places of numbers 3 is given before 9 is asked
  same_refusal : band_refusal_in m number ≡ band_read_refusal right (said_profile m) number
  unfolding band_refusal_in band_read_refusal said_profile
  same_refusal = go (ltb highest_band_number number) refl
    where
      go : (t : Bool) → ltb highest_band_number number ≡ t → band_refusal_in m number ≡ band_read_refusal right (said_profile m) number
      go true e = rw e
      go false e = rw (live_by_place m.bands number (omega (arith, ltb-false highest_band_number number e)))

  -- where none does, the same is read
  same_read : band_read_refusal right (said_profile m) number ≡ 0 → band_read_of (some (said_band m.bands number)) ≡ band_read (said_profile m) number
  unfolding band_read said_profile
  same_read z =
      let accepted = ((band_accepted right (said_profile m) number).0 z).1 in
      let place : number < band_places = omega arith in
      let live = sym (live_by_place m.bands number place) ∙ (is_live_means number (said_profile m).bands).test accepted.1 in
      rw (band_by_place m.bands number place, live)

  pub band_on_any : band_in m number ≡ band_read_answer (sizes_right (lengths_in m)) (said_profile m) number
  unfolding band_in band_read_answer
  band_on_any = rw same_refusal (same_answered (band_read_refusal right (said_profile m) number) (band_read_of none) _ _ same_read)

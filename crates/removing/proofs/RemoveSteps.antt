-- Removing, step by step: a law for each place where judging returns; what a number given by judging comes to; and, where judging gives nothing,
-- what is known, and that 12 of the profile without the band decides.
-- Assumes nothing.
use Prim.Native.Nat.{ℕ, ◌≤◌, ◌<◌}
use mathlib.Core.Path.{◌≡◌, sym, ap, ◌∙◌}
use mathlib.Core.Bool.{true, false}
use mathlib.Core.List.{List, [], ◌∷◌}
use native.Mathlib.Omega.{arith}
use borrow.Author.Tests.{lt-ltb, le-ltb}
use Rattle.rules.specs.Connectives.{says_yes}
use Rattle.rules.specs.HallLine.{Band, house, highest_band_number}
use Rattle.rules.specs.Changes.{removed}
use Rattle.rules.specs.BoxSaysNo.{TableLine, refusal_by, scope_above, number_above, number_not_live, scope_other, marks_exceed, fit_refusal, remove_judged_lines, remove_refusal, leaving}
use Rattle.rules.proofs.Means.{Means, reworded, denied}
use Rattle.rules.proofs.Lists.{ascends_once}
use Rattle.rules.proofs.BoxSaysNo.{scope_other_means, RemoveJudged, remove_judged_zero}
use Rattle.rules.proofs.Theory.RemoveRefusals.{eleven_not_after_remove}
use Rattle.store.specs.Sizes.{band_places, sizes_right}
use Rattle.store.specs.Memory.{Memory, lengths_in, room_in}
use Rattle.store.specs.Places.{band_field, live_field}
use Rattle.store.specs.SaidProfile.{said_band, said_bands, said_profile}
use Rattle.store.specs.Sound.{sound}
use Rattle.store.proofs.SaidBands.{said_bands_ascend, in_said_bands, live_by_place}
use Rattle.store.proofs.Sound.{unsound_fails}
use Rattle.store.proofs.SaidStands.{in_room}
use Rattle.committing.specs.Committed.{committed}
use Rattle.removing.specs.RemoveCall.{remove_refusal_in, remove_in, remove_judged}
use Rattle.store.proofs.SoundFirst.{unsound_given, sound_passed}
use Rattle.store.proofs.JudgedFirst.{judged_refused, judged_then_fit}

module _ (m : Memory) (number scope : ℕ) where
  -- of the lines of 1, 2, 3, 9 and 10 those from 9 on, those from 2 on, and all; and the line of 12
  abbrev lines_from9 : List TableLine
  lines_from9 = number_not_live (said_profile m) number ∷ scope_other (said_profile m) number scope ∷ []

  abbrev lines_from2 : List TableLine
  lines_from2 = scope_above scope ∷ number_above number ∷ lines_from9

  abbrev judged_lines : List TableLine
  judged_lines = remove_judged_lines (sizes_right (lengths_in m)) (sound m) (said_profile m) number scope

  abbrev line_of12 : List TableLine
  line_of12 = marks_exceed (room_in m) (removed (said_profile m) number) ∷ []

  -- ---- judging 1, 2, 3, 9 and 10

  -- 1: memory is not sound
  pub remove_judged_by_1 : sound m ≡ false → 1 ≡ remove_judged m number scope
  unfolding remove_judged
  remove_judged_by_1 unsound = sym (unsound_given m lines_from2 unsound)

  module _ (s : sound m ≡ true) where
    past_1 : remove_judged m number scope ≡ refusal_by lines_from2
    unfolding remove_judged
    past_1 = sound_passed m lines_from2 s

    -- 2: scope above 64
    pub remove_judged_by_2 : house < scope → 2 ≡ remove_judged m number scope
    remove_judged_by_2 above = rw (past_1, lt-ltb _ _ above)

    module _ (scope_right : scope ≤ house) where
      -- 3: number above 1,023
      pub remove_judged_by_3 : highest_band_number < number → 3 ≡ remove_judged m number scope
      remove_judged_by_3 above = rw (past_1, le-ltb _ _ scope_right, lt-ltb _ _ above)

      module _ (number_right : number ≤ highest_band_number) where
        past_3 : remove_judged m number scope ≡ refusal_by lines_from9
        past_3 = rw (past_1, le-ltb _ _ scope_right, le-ltb _ _ number_right)

        -- 9: number is not live
        pub remove_judged_by_9 : says_yes (band_field m.bands number live_field) ≡ false → 9 ≡ remove_judged m number scope
        unfolding said_profile
        remove_judged_by_9 free = rw (past_3, live_by_place m.bands number (omega arith), free)

        -- the band that the place of a live number says
        module _ (live : says_yes (band_field m.bands number live_field) ≡ true) (d : Band) (said : d ≡ said_band m.bands number) where
          past_9 : remove_judged m number scope ≡ refusal_by (scope_other (said_profile m) number scope ∷ [])
          unfolding said_profile
          past_9 = rw (past_3, live_by_place m.bands number (omega arith), live)

          -- it is the number's one live band, so its scope alone decides
          other_means : Means (scope_other (said_profile m) number scope).applies (d.scope ≡ scope → ⊥)
          unfolding said_profile said_band
          other_means =
              let own = ap (λ c. c.number) said in
              let is_live = (in_said_bands m.bands d).1 (number, omega arith, (live, said)) in
              let once = ascends_once (λ c. c.number) 0 (said_bands m.bands) (said_bands_ascend m.bands) in
              reworded
              (scope_other_means (said_profile m) number scope)
              (λ t e. t.2.1 (ap (λ c. c.scope) (once t.0 d t.1 is_live (t.2.0 ∙ sym own)) ∙ e))
              (λ other. (d, is_live, (own, other)))

          -- 10: its scope is another
          pub remove_judged_by_10 : (d.scope ≡ scope → ⊥) → 10 ≡ remove_judged m number scope
          remove_judged_by_10 other = rw (past_9, other_means.test other)

          pub remove_judged_by_none : d.scope ≡ scope → 0 ≡ remove_judged m number scope
          remove_judged_by_none same = rw (past_9, (denied other_means).test (λ other. other same))

  -- ---- what they give

  -- a number given stands: 12 after them plays no part
  pub remove_refused : (n : ℕ) → n ≡ remove_judged m number scope → (n ≡ 0 → ⊥) → leaving n m ≡ remove_in m number scope
  unfolding remove_in remove_refusal_in remove_refusal remove_judged
  remove_refused = judged_refused m judged_lines line_of12 _

  -- where they give nothing
  module _ (judged : remove_judged m number scope ≡ 0) where
    -- none of them applies
    pub remove_right : RemoveJudged (sound m ≡ true) (said_profile m) number scope
    unfolding remove_judged
    remove_right = (remove_judged_zero (sizes_right (lengths_in m)) (sound m) (unsound_fails m) (said_profile m) number scope).0 judged

    -- memory is sound
    pub remove_on_sound : sound m ≡ true
    remove_on_sound = remove_right.memory_right

    -- the number has a place
    pub number_has_place : number < band_places
    number_has_place = omega (arith, remove_right.number_right)

    -- 12 decides: 11 never applies
    pub remove_committed : committed m (removed (said_profile m) number) ≡ remove_in m number scope
    unfolding committed remove_in remove_refusal_in remove_refusal remove_judged fit_refusal
    remove_committed =
        judged_then_fit m judged_lines line_of12 _ (omega arith)
        (rw (eleven_not_after_remove (room_in m) (said_profile m) number (in_room m remove_on_sound).1.nodes_fit_lem)) judged

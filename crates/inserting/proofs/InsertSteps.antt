-- Inserting, step by step: a law for each place where judging returns; what a number given by judging comes to; and, where judging gives nothing,
-- what is known, and that 11 and 12 of the profile with the band decide.
-- Assumes nothing.
use Prim.Native.Nat.{ℕ}
use mathlib.Core.Path.{◌≡◌, refl, sym, ap, ◌∙◌}
use mathlib.Core.Bool.{true, false, cond}
use mathlib.Core.List.{List, [], ◌∷◌, ◌++◌}
use native.Mathlib.Omega.{arith}
use Rattle.rules.specs.Connectives.{says_yes}
use Rattle.rules.specs.HallLine.{Band}
use Rattle.rules.specs.Profile.{is_live}
use Rattle.rules.specs.Changes.{inserted}
use Rattle.rules.specs.BoxSaysNo.{TableLine, fault_lines, number_live, fault_of, fit_lines, fit_refusal, insert_judged_lines, insert_refusal, leaving}
use Rattle.rules.proofs.Means.{denied}
use Rattle.rules.proofs.Lists.{any_fails}
use Rattle.rules.proofs.Profile.{has_number_means}
use Rattle.rules.proofs.FirstLine.{refusal_enough, refusal_then}
use Rattle.rules.proofs.BoxSaysNo.{fault_zero, InsertJudged, insert_judged_zero}
use Rattle.store.specs.Sizes.{sizes_right}
use Rattle.store.specs.Memory.{Memory, lengths_in, room_in}
use Rattle.store.specs.Places.{band_field, live_field}
use Rattle.store.specs.SaidProfile.{said_profile}
use Rattle.store.specs.Sound.{sound}
use Rattle.store.proofs.SaidBands.{live_by_place}
use Rattle.store.proofs.Sound.{unsound_fails}
use Rattle.committing.specs.Committed.{committed}
use Rattle.inserting.specs.InsertCall.{insert_refusal_in, insert_in, insert_judged}
use Rattle.store.proofs.SoundFirst.{unsound_given, sound_passed}
use Rattle.store.proofs.JudgedFirst.{judged_refused, judged_then_fit}

module _ (m : Memory) (b : Band) (lo hi : ℕ) where
  -- the lines of 8, of 2 to 8, and of 1 to 8
  abbrev line_of8 : List TableLine
  line_of8 = number_live (said_profile m) b.number ∷ []

  abbrev lines_from2 : List TableLine
  lines_from2 = fault_lines b lo hi ++ line_of8

  abbrev judged_lines : List TableLine
  judged_lines = insert_judged_lines (sizes_right (lengths_in m)) (sound m) (said_profile m) b lo hi

  -- ---- judging 1 to 8

  -- 1: memory is not sound
  pub insert_judged_by_1 : sound m ≡ false → 1 ≡ insert_judged m b lo hi
  unfolding insert_judged
  insert_judged_by_1 unsound = sym (unsound_given m lines_from2 unsound)

  module _ (s : sound m ≡ true) where
    -- 2 to 7: a fault of the band or its levels
    pub insert_judged_by_fault : (n : ℕ) → n ≡ fault_of b lo hi → (n ≡ 0 → ⊥) → n ≡ insert_judged m b lo hi
    unfolding insert_judged fault_of
    insert_judged_by_fault n fault given =
        fault ∙ sym (sound_passed m lines_from2 s ∙ refusal_enough (fault_lines b lo hi) line_of8 (λ z. given (fault ∙ z)))

    module _ (none : 0 ≡ fault_of b lo hi) where
      -- the place of the number decides
      by_place : insert_judged m b lo hi ≡ cond (says_yes (band_field m.bands b.number live_field)) 8 0
      unfolding insert_judged fault_of said_profile
      by_place =
          let right = ((fault_zero b lo hi).0 (sym none)).0 in
          sound_passed m lines_from2 s
          ∙ refusal_then (fault_lines b lo hi) line_of8 (omega arith) (sym none)
          ∙ ap (λ live. cond live 8 0) (live_by_place m.bands b.number (omega (arith, right.number_right)))

      -- 8: number is live
      pub insert_judged_by_8 : says_yes (band_field m.bands b.number live_field) ≡ true → 8 ≡ insert_judged m b lo hi
      insert_judged_by_8 live = rw (by_place, live)

      pub insert_judged_by_none : says_yes (band_field m.bands b.number live_field) ≡ false → 0 ≡ insert_judged m b lo hi
      insert_judged_by_none free = rw (by_place, free)

  -- ---- what they give

  -- a number given stands: 11 and 12 after them play no part
  pub insert_refused : (n : ℕ) → n ≡ insert_judged m b lo hi → (n ≡ 0 → ⊥) → leaving n m ≡ insert_in m b lo hi
  unfolding insert_in insert_refusal_in insert_refusal insert_judged
  insert_refused = judged_refused m judged_lines (fit_lines (room_in m) (inserted (said_profile m) b lo hi)) _

  -- where they give nothing
  module _ (judged : insert_judged m b lo hi ≡ 0) where
    -- none of them applies
    pub insert_right : InsertJudged (sound m ≡ true) (said_profile m) b lo hi
    unfolding insert_judged
    insert_right = (insert_judged_zero (sizes_right (lengths_in m)) (sound m) (unsound_fails m) (said_profile m) b lo hi).0 judged

    -- memory is sound
    pub insert_on_sound : sound m ≡ true
    insert_on_sound = insert_right.memory_right

    -- the entry has no fault ..
    pub entry_right : fault_of b lo hi ≡ 0
    entry_right = (fault_zero b lo hi).1 (insert_right.band_right, insert_right.levels_right_lem)

    -- .. and its number is free
    pub number_free : is_live b.number (said_profile m).bands ≡ false
    unfolding is_live
    number_free = (any_fails (λ c. denied (has_number_means b.number c)) (said_profile m).bands).test insert_right.number_free

    -- 11 and 12 decide
    pub insert_committed : committed m (inserted (said_profile m) b lo hi) ≡ insert_in m b lo hi
    unfolding committed insert_in insert_refusal_in insert_refusal insert_judged fit_refusal
    insert_committed = judged_then_fit m judged_lines (fit_lines (room_in m) (inserted (said_profile m) b lo hi)) _ (omega arith) refl judged

-- When a remove says no, number by number in plain words: a number is given exactly when its line of the table applies and none before it does, and 0
-- exactly when none applies. The profile after the remove alone decides 12, by the rule's own count of marks.
-- Assumes nothing.
use Prim.Native.Nat.{ℕ, ◌≤◌, ◌<◌}
use mathlib.Core.Path.{◌≡◌}
use mathlib.Core.Bool.{Bool}
use mathlib.Core.Logic.Iff
use mathlib.Core.Logic.{◌↔◌}
use mathlib.Core.List.{List, [], ◌∷◌, ◌++◌}
use native.Mathlib.Omega.{arith}
use Rattle.rules.specs.HallLine.{highest_band_number, house}
use Rattle.rules.specs.Profile.{Profile}
use Rattle.rules.specs.Marks.{marks_in_use}
use Rattle.rules.specs.Changes.{removed}
use Rattle.rules.specs.Room.{Room}
use Rattle.rules.specs.BoxSaysNo.{TableLine, refusal_by, not_sound, scope_above, number_above, number_not_live, scope_other, marks_exceed, remove_judged_lines, remove_refusal}
use Rattle.rules.proofs.Means.{Means, Fails, not_fails, lt_fails}
use Rattle.rules.proofs.Lists.{Some, Each}
use Rattle.rules.proofs.Profile.{is_live_means}
use Rattle.rules.proofs.FirstLine.{line_zero, last_zero, line_gives, line_gives_after, refusal_neither}
use Rattle.rules.proofs.BoxSaysNo.{scope_above_means, number_above_means, number_not_live_means, scope_other_means, marks_exceed_means, RemoveJudged, remove_judged_zero, RemoveAccepted, remove_accepted}

-- the number n that a remove answers; Unsound and Sound say when 1 applies and when it does not
pub record RemoveGives (Unsound Sound : Type 0) (room : Room) (p : Profile) (number scope n : ℕ) : Type 0 where
  -- 1: memory not sound, sizes out of range among it
  pub gives_1 : (n ≡ 1) ↔ Unsound
  -- 2: scope above 64
  pub gives_2 : (n ≡ 2) ↔ (Sound × (house < scope))
  -- 3: band number above 1,023
  pub gives_3 : (n ≡ 3) ↔ (Sound × (scope ≤ house) × (highest_band_number < number))
  -- 9: number is not live
  pub gives_9 : (n ≡ 9) ↔ (Sound × (scope ≤ house) × (number ≤ highest_band_number) × Each (λ b. b.number ≡ number → ⊥) p.bands)
  -- 10: the band's scope is another
  pub gives_10 : (n ≡ 10)
      ↔ (Sound × (scope ≤ house) × (number ≤ highest_band_number) × Some (λ b. (b.number ≡ number) × (b.scope ≡ scope → ⊥)) p.bands)
  -- 12: marks that the rule gives after the call would exceed the mark room
  pub gives_12 : (n ≡ 12) ↔ (RemoveJudged Sound p number scope × (room.marks < marks_in_use (removed p number)))
  -- accepted: none of them
  pub gives_0 : (n ≡ 0) ↔ RemoveAccepted Sound room p number scope

module _ (sizes_right sound : Bool) {Unsound Sound : Type 0} (wrong : Means (not_sound sizes_right sound).applies Unsound)
    (right : Fails (not_sound sizes_right sound).applies Sound) (room : Room) (p : Profile) (number scope : ℕ) where
  -- the lines of 1 to 3, and those from 10 on
  abbrev line_1 : TableLine
  line_1 = not_sound sizes_right sound

  abbrev lines_to_3 : List TableLine
  lines_to_3 = line_1 ∷ scope_above scope ∷ number_above number ∷ []

  abbrev from_10 : List TableLine
  from_10 = scope_other p number scope ∷ marks_exceed room (removed p number) ∷ []

  -- where 1 to 3 give nothing
  past_3 : (refusal_by lines_to_3 ≡ 0) ↔ (Sound × (scope ≤ house) × (number ≤ highest_band_number))
  past_3 =
      Iff.trans
      (line_zero 1 (omega arith) right
      (line_zero 2 (omega arith) (lt_fails house scope) (last_zero 3 (omega arith) (lt_fails highest_band_number number))))
      (λ f. (f.0, f.1.0, f.1.1), λ f. (f.0, (f.1, f.2)))

  pub remove_gives : RemoveGives Unsound Sound room p number scope (remove_refusal sizes_right sound room p number scope)
  unfolding remove_refusal
  remove_gives =
      record {
        gives_1 = line_gives line_1 (scope_above scope ∷ number_above number ∷ number_not_live p number ∷ from_10) (omega arith) (omega arith) wrong;
        gives_2 =
            line_gives_after (line_1 ∷ []) (scope_above scope) (number_above number ∷ number_not_live p number ∷ from_10) (omega arith)
            (last_zero 1 (omega arith) right) (scope_above_means scope);
        gives_3 =
            Iff.trans
            (line_gives_after (line_1 ∷ scope_above scope ∷ []) (number_above number) (number_not_live p number ∷ from_10) (omega arith)
            (line_zero 1 (omega arith) right (last_zero 2 (omega arith) (lt_fails house scope))) (number_above_means number))
            (λ f. (f.0.0, f.0.1, f.1), λ f. ((f.0, f.1), f.2));
        gives_9 =
            Iff.trans
            (line_gives_after lines_to_3 (number_not_live p number) from_10 (omega arith) past_3 (number_not_live_means p number))
            (λ f. (f.0.0, f.0.1, f.0.2, f.1), λ f. ((f.0, f.1, f.2), f.3));
        gives_10 =
            Iff.trans
            (line_gives_after (lines_to_3 ++ number_not_live p number ∷ []) (scope_other p number scope) (marks_exceed room (removed p number) ∷ [])
            (omega arith)
            (refusal_neither lines_to_3 (number_not_live p number ∷ []) (omega arith) past_3
            (last_zero 9 (omega arith) (not_fails (is_live_means number p.bands))))
            (scope_other_means p number scope)) (
              λ f. (f.0.0.0, f.0.0.1, f.0.0.2, f.1),
              λ f. (((f.0, f.1, f.2), (f.3.0, f.3.1, f.3.2.0)), f.3),
            );
        gives_12 =
            line_gives_after (remove_judged_lines sizes_right sound p number scope) (marks_exceed room (removed p number)) [] (omega arith)
            (remove_judged_zero sizes_right sound right p number scope) (marks_exceed_means room (removed p number));
        gives_0 = remove_accepted sizes_right sound right room p number scope;
      }

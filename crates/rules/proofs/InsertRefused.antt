-- When an insert says no, number by number in plain words: a number is given exactly when its line of the table applies and none before it does, and 0
-- exactly when none applies. The profile after the insert alone decides 11 and 12, and 12 by the rule's own count of marks.
-- Assumes nothing.
use Prim.Native.Nat.{ℕ, ◌≤◌, ◌<◌}
use mathlib.Core.Path.{◌≡◌}
use mathlib.Core.Bool.{Bool, true, cond}
use mathlib.Core.Logic.Iff
use mathlib.Core.Logic.{◌↔◌, ◌⊎◌}
use mathlib.Core.List.{List, [], ◌∷◌, ◌++◌}
use native.Mathlib.Omega.{arith}
use lib.ListN.{length}
use Rattle.rules.specs.HallLine.{Band, machines, highest_key, highest_band_number, house, holds}
use Rattle.rules.specs.NodesLanesEdges.{lanes}
use Rattle.rules.specs.Profile.{Profile}
use Rattle.rules.specs.Marks.{marks_in_use}
use Rattle.rules.specs.Changes.{inserted}
use Rattle.rules.specs.Room.{Room}
use Rattle.rules.specs.BoxSaysNo.{TableLine, refusal_by, not_sound, scope_above, number_above, end_above, holds_none, end_elsewhere, level_wrong, number_live, nodes_exceed, marks_exceed, band_lines, band_fault, fault_lines, fault_of, fit_lines, insert_judged_lines, insert_refusal}
use Rattle.rules.proofs.Means.{Means, Fails, not_fails, or_fails, lt_fails}
use Rattle.rules.proofs.Lists.{Some}
use Rattle.rules.proofs.HallLine.{Own, holds_whole_key_means}
use Rattle.rules.proofs.NodesLanesEdges.{Level}
use Rattle.rules.proofs.Faults.{NoneAbove}
use Rattle.rules.proofs.FirstLine.{line_zero, last_zero, line_gives, line_gives_after, refusal_neither}
use Rattle.rules.proofs.BoxSaysNo.{scope_above_means, number_above_means, end_above_means, holds_none_means, end_elsewhere_means, level_wrong_means, number_live_means, nodes_exceed_means, marks_exceed_means, BandRight, band_fault_zero, fault_zero, InsertJudged, insert_judged_zero, InsertAccepted, insert_accepted}

-- the number n that an insert answers; Unsound and Sound say when 1 applies and when it does not
pub record InsertGives (Unsound Sound : Type 0) (room : Room) (p : Profile) (b : Band) (lo hi n : ℕ) : Type 0 where
  -- 1: memory not sound, sizes out of range among it
  pub gives_1 : (n ≡ 1) ↔ Unsound
  -- 2: scope above 64
  pub gives_2 : (n ≡ 2) ↔ (Sound × (house < b.scope))
  -- 3: band number above 1,023
  pub gives_3 : (n ≡ 3) ↔ (Sound × (b.scope ≤ house) × (highest_band_number < b.number))
  -- 4: an end above 2,097,151
  pub gives_4 : (n ≡ 4) ↔ (Sound × (b.scope ≤ house) × (b.number ≤ highest_band_number) × ((highest_key < b.low) ⊎ (highest_key < b.high)))
  -- 5: band holds no whole key
  pub gives_5 : (n ≡ 5) ↔ (Sound × NoneAbove b × ((k : ℕ) → holds b k ≡ true → ⊥))
  -- 6: scope is a machine and an end is not among its keys
  pub gives_6 : (n ≡ 6)
      ↔ (Sound
      × NoneAbove b
      × ((k : ℕ) × (holds b k ≡ true))
      × (b.scope < machines)
      × ((Own b.scope b.low → ⊥) ⊎ (Own b.scope b.high → ⊥)))
  -- 7: a given level is not 1 to 8, even if it would not be used
  pub gives_7 : (n ≡ 7) ↔ (Sound × BandRight b × (((lo < 1) ⊎ (lanes < lo)) ⊎ ((hi < 1) ⊎ (lanes < hi))))
  -- 8: number is live
  pub gives_8 : (n ≡ 8) ↔ (Sound × BandRight b × (Level lo × Level hi) × Some (λ c. c.number ≡ b.number) p.bands)
  -- 11: nodes after the call would exceed the node room
  pub gives_11 : (n ≡ 11) ↔ (InsertJudged Sound p b lo hi × (room.nodes < length (inserted p b lo hi).nodes))
  -- 12: marks that the rule gives after the call would exceed the mark room
  pub gives_12 : (n ≡ 12)
      ↔ (InsertJudged Sound p b lo hi
      × (length (inserted p b lo hi).nodes ≤ room.nodes)
      × (room.marks < marks_in_use (inserted p b lo hi)))
  -- accepted: none of them
  pub gives_0 : (n ≡ 0) ↔ InsertAccepted Sound room p b lo hi

module _ (sizes_right sound : Bool) {Unsound Sound : Type 0} (wrong : Means (not_sound sizes_right sound).applies Unsound)
    (right : Fails (not_sound sizes_right sound).applies Sound) (room : Room) (p : Profile) (b : Band) (lo hi : ℕ) where
  abbrev after : Profile
  after = inserted p b lo hi

  -- the lines of 1 to 4, and those from 7 on
  abbrev line_1 : TableLine
  line_1 = not_sound sizes_right sound

  abbrev lines_to_4 : List TableLine
  lines_to_4 = line_1 ∷ scope_above b.scope ∷ number_above b.number ∷ end_above b ∷ []

  abbrev from_7 : List TableLine
  from_7 = level_wrong lo hi ∷ number_live p b.number ∷ fit_lines room after

  -- where 1 and what is given after it give nothing, and 1 to 4
  past_1 : {n : ℕ} {Y : Type 0} → (n ≡ 0) ↔ Y → (cond line_1.applies 1 n ≡ 0) ↔ (Sound × Y)
  past_1 = line_zero 1 (omega arith) right

  past_4 : (refusal_by lines_to_4 ≡ 0) ↔ (Sound × NoneAbove b)
  past_4 =
      Iff.trans
      (past_1
      (line_zero 2 (omega arith) (lt_fails house b.scope)
      (line_zero 3 (omega arith) (lt_fails highest_band_number b.number)
      (last_zero 4 (omega arith) (or_fails (lt_fails highest_key b.low) (lt_fails highest_key b.high)))))) (
        λ f. (f.0, record { scope = f.1.0; number = f.1.1.0; low = f.1.1.1.0; high = f.1.1.1.1 }),
        λ f. (f.0, (f.1.scope, (f.1.number, (f.1.low, f.1.high)))),
      )

  pub insert_gives : InsertGives Unsound Sound room p b lo hi (insert_refusal sizes_right sound room p b lo hi)
  unfolding insert_refusal band_fault fault_of
  insert_gives =
      record {
        gives_1 = line_gives line_1 (band_lines b ++ from_7) (omega arith) (omega arith) wrong;
        gives_2 =
            line_gives_after (line_1 ∷ []) (scope_above b.scope) (number_above b.number ∷ end_above b ∷ holds_none b ∷ end_elsewhere b ∷ from_7)
            (omega arith) (last_zero 1 (omega arith) right) (scope_above_means b.scope);
        gives_3 =
            Iff.trans
            (line_gives_after (line_1 ∷ scope_above b.scope ∷ []) (number_above b.number) (end_above b ∷ holds_none b ∷ end_elsewhere b ∷ from_7)
            (omega arith) (past_1 (last_zero 2 (omega arith) (lt_fails house b.scope))) (number_above_means b.number))
            (λ f. (f.0.0, f.0.1, f.1), λ f. ((f.0, f.1), f.2));
        gives_4 =
            Iff.trans
            (line_gives_after (line_1 ∷ scope_above b.scope ∷ number_above b.number ∷ []) (end_above b) (holds_none b ∷ end_elsewhere b ∷ from_7)
            (omega arith)
            (past_1 (line_zero 2 (omega arith) (lt_fails house b.scope) (last_zero 3 (omega arith) (lt_fails highest_band_number b.number))))
            (end_above_means b))
            (λ f. (f.0.0, f.0.1.0, f.0.1.1, f.1), λ f. ((f.0, (f.1, f.2)), f.3));
        gives_5 =
            Iff.trans
            (line_gives_after lines_to_4 (holds_none b) (end_elsewhere b ∷ from_7) (omega arith) past_4 (holds_none_means b))
            (λ f. (f.0.0, f.0.1, f.1), λ f. ((f.0, f.1), f.2));
        gives_6 =
            Iff.trans
            (line_gives_after (lines_to_4 ++ holds_none b ∷ []) (end_elsewhere b) from_7 (omega arith)
            (refusal_neither lines_to_4 (holds_none b ∷ []) (omega arith) past_4 (last_zero 5 (omega arith) (not_fails (holds_whole_key_means b))))
            (end_elsewhere_means b))
            (λ f. (f.0.0.0, f.0.0.1, f.0.1, f.1.0, f.1.1), λ f. (((f.0, f.1), f.2), (f.3, f.4)));
        gives_7 =
            Iff.trans
            (line_gives_after (line_1 ∷ band_lines b) (level_wrong lo hi) (number_live p b.number ∷ fit_lines room after) (omega arith)
            (past_1 (band_fault_zero b)) (level_wrong_means lo hi))
            (λ f. (f.0.0, f.0.1, f.1), λ f. ((f.0, f.1), f.2));
        gives_8 =
            Iff.trans
            (line_gives_after (line_1 ∷ fault_lines b lo hi) (number_live p b.number) (fit_lines room after) (omega arith)
            (past_1 (fault_zero b lo hi)) (number_live_means p b.number))
            (λ f. (f.0.0, f.0.1.0, f.0.1.1, f.1), λ f. ((f.0, (f.1, f.2)), f.3));
        gives_11 =
            line_gives_after (insert_judged_lines sizes_right sound p b lo hi) (nodes_exceed room after) (marks_exceed room after ∷ []) (omega arith)
            (insert_judged_zero sizes_right sound right p b lo hi) (nodes_exceed_means room after);
        gives_12 =
            Iff.trans
            (line_gives_after (insert_judged_lines sizes_right sound p b lo hi ++ nodes_exceed room after ∷ []) (marks_exceed room after) [] (omega arith)
            (refusal_neither (insert_judged_lines sizes_right sound p b lo hi) (nodes_exceed room after ∷ []) (omega arith)
            (insert_judged_zero sizes_right sound right p b lo hi) (last_zero 11 (omega arith) (lt_fails room.nodes (length after.nodes))))
            (marks_exceed_means room after))
            (λ f. (f.0.0, f.0.1, f.1), λ f. ((f.0, f.1), f.2));
        gives_0 = insert_accepted sizes_right sound right room p b lo hi;
      }

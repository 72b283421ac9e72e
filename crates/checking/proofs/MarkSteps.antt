-- The test of fences and marks as the code goes about it: marks counted, counts turned into starts, and marks laid from these into a draft give
-- the same answers as the staircases' marks slot by slot.
-- Assumes nothing.
use Prim.Native.Nat.{ℕ, suc, ◌-◌, ◌*◌, ◌≤◌, ◌<◌}
use mathlib.Core.Path.{◌≡◌, refl, sym, ◌∙◌, ap, subst}
use mathlib.Core.Bool.{Bool, true, false}
use mathlib.Core.Logic.{inl, inr, ⊎_elim}
use mathlib.Core.List.{List, [], ◌∷◌}
use native.Mathlib.Omega.{arith}
use borrow.Author.Tests.{leb-true, lt-leb}
use lib.Dec.{eqb}
use lib.ListN.{length, take, replicate, length-replicate}
use Rattle.std.specs.Cmp.Lexicographic.{pointwise}
use Rattle.rules.specs.Connectives.{◌and◌}
use Rattle.rules.proofs.Connectives.{both}
use Rattle.rules.specs.Lists.{sum_of, all_from, same_numbers}
use Rattle.rules.specs.Room.{most_marks}
use Rattle.rules.specs.Staircase.{slots_per_node, slot_number}
use Rattle.rules.proofs.Means.{and_both, false_and, at_most_or_above}
use Rattle.rules.proofs.Lists.{all_from_same}
use Rattle.store.specs.Places.{node_field, fence_field, in_use}
use Rattle.store.specs.Padded.{padded}
use Rattle.store.proofs.Padded.{padded_taken}
use Rattle.marking.specs.Buckets.{Mark, in_slots, starts_from, laid_of, with_marks}
use Rattle.marking.specs.Staircases.{staircases}
use Rattle.marking.specs.CountUpTo.{count_of, count_up_to}
use Rattle.marking.proofs.Counted.{Counted, counted_up_to}
use Rattle.marking.proofs.InSlots.{slots_count}
use Rattle.marking.proofs.CountsAndStarts.{counts_of, counts_at_most, starts_are}
use Rattle.marking.proofs.BucketLaw.{laid_in_slots}
use Rattle.marking.proofs.StaircasesInRange.{staircases_in_range}
use Rattle.checking.specs.MarkPlaces.{marks_in_use_right, fence_right, fences_right, marks_stand, marks_right, place_fences_at, fences_at, draft_laid, marks_as_laid}

-- ---- mark words and the draft

-- std's equality of two slices is that of the rules
pub same_each : (xs ys : List ℕ) → pointwise eqb xs ys ≡ same_numbers xs ys
same_each [] [] = refl
same_each [] (y ∷ ys) = refl
same_each (x ∷ xs) [] = refl
same_each (x ∷ xs) (y ∷ ys) = both refl (same_each xs ys)

-- words held against the draft, once the marks are laid in it
pub against_draft : (bands nodes marks starts draft : List ℕ) {cursors laid : List ℕ} {r : Bool}
    → laid_of cursors laid ≡ with_marks (laid_of starts draft) (staircases bands nodes)
    → r ≡ same_numbers marks (take (length marks) laid) → r ≡ marks_as_laid bands nodes marks starts draft
unfolding marks_as_laid draft_laid
against_draft bands nodes marks starts draft lays same = same ∙ ap (λ l. same_numbers marks (take (length marks) l.marks)) lays

-- ---- the marks that the bands ask for, counted

module _ (nodes : List ℕ) (ms : List Mark) (k : ℕ) (slots_fit : in_use nodes * slots_per_node < k) where
  -- a slot of a place in use, or the one after its slots, has a start
  has_start : (i s : ℕ) → 1 ≤ i → i ≤ in_use nodes → s ≤ slots_per_node → slot_number (i - 1) s < k
  unfolding slot_number
  has_start i s a b c = omega arith

  place_fences_start : (i : ℕ) → 1 ≤ i → i ≤ in_use nodes
      → place_fences_at nodes (starts_from 0 (counts_of k ms)) i ≡ all_from (fence_right nodes ms i) 0 (suc slots_per_node)
  unfolding place_fences_at fence_right
  place_fences_start i a b =
      all_from_same 0 (suc slots_per_node) (λ s l u.
      let start = starts_are k ms (slot_number (i - 1) s) (has_start i s a b (omega arith)) in
      ap (eqb (node_field nodes i (fence_field s))) start)

  -- fences held against the starts are held against the marks
  fences_start : fences_at nodes (starts_from 0 (counts_of k ms)) ≡ fences_right nodes ms
  unfolding fences_at fences_right
  fences_start = all_from_same 1 (in_use nodes) (λ i l u. place_fences_start i l (omega arith))

-- the marks are counted in k cursors that were zero; what the tests told of them, one after the other
module _ (bands nodes marks : List ℕ) (k : ℕ) {sum : ℕ} {cursors : List ℕ}
    (counts : count_of sum cursors ≡ count_up_to (length marks) bands nodes (replicate k 0))
    {in_use_told : Bool} (in_use_says : in_use_told ≡ marks_in_use_right nodes (length marks) sum) where
  counted : Counted (length marks) k (staircases bands nodes) sum cursors
  counted =
      let many : length (replicate k 0) ≡ k = length-replicate {A = ℕ} k 0 in
      subst (λ n. Counted (length marks) n (staircases bands nodes) sum cursors) many
      (counted_up_to _ _ _ {zeros = replicate k 0} (ap (λ n. replicate n 0) (sym many)) counts)

  -- the sum tells whether there is room for them and the header counts them, also where counting stopped
  in_use_tested : in_use_told ≡ marks_in_use_right nodes (length marks) (length (staircases bands nodes))
  unfolding marks_in_use_right
  in_use_tested =
      in_use_says
      ∙ ⊎_elim
      (λ fit. ap (marks_in_use_right nodes (length marks)) (counted.all fit))
      (λ more. false_and _ _ (inl (lt-leb _ _ more)) ∙ sym (false_and _ _ (inl (lt-leb _ _ (counted.too_many more)))))
      (at_most_or_above sum (length marks))

  -- where there is no room for them, or the header does not count them, the test fails
  pub in_use_wrong : in_use_told ≡ false → marks_right bands nodes marks ≡ false
  unfolding marks_right
  in_use_wrong e = false_and _ _ (inl (sym in_use_tested ∙ e))

  -- .. and otherwise the sum is within the room
  module _ (in_use_lem : in_use_told ≡ true) where
    fit : sum ≤ length marks
    unfolding marks_in_use_right
    fit = leb-true _ _ (and_both _ _ (sym in_use_says ∙ in_use_lem)).0

    -- the counts are no more together than the marks
    pub counts_fit : sum_of (λ c. c) cursors ≤ length marks
    counts_fit = rw (counted.each_slot fit) (omega (arith, fit, counts_at_most k (staircases bands nodes), counted.all fit))

    module _ (slots_fit : in_use nodes * slots_per_node < k) {starts : List ℕ} (started : starts ≡ starts_from 0 cursors)
        {fences_told : Bool} (fences_say : fences_told ≡ fences_at nodes starts) where
      fences_tested : fences_told ≡ fences_right nodes (staircases bands nodes)
      fences_tested = fences_say ∙ rw (started, counted.each_slot fit) (fences_start nodes (staircases bands nodes) k slots_fit)

      pub fences_wrong : fences_told ≡ false → marks_right bands nodes marks ≡ false
      unfolding marks_right
      fences_wrong e = false_and _ _ (inr (false_and _ _ (inl (sym fences_tested ∙ e))))

      -- the draft has the marks slot by slot, and zeros after them
      draft_laid_lem : length marks ≤ most_marks → {draft : List ℕ} → draft ≡ replicate most_marks 0
          → take (length marks) (draft_laid bands nodes starts draft)
          ≡ padded (length marks) (in_slots 0 (in_use nodes * slots_per_node) (staircases bands nodes))
      unfolding draft_laid
      draft_laid_lem few {draft} empty =
          let ms : List Mark = staircases bands nodes in
          let slots : ℕ = in_use nodes * slots_per_node in
          let in_range = staircases_in_range bands nodes in
          let as_many = counted.all fit in
          rw (empty, started, counted.each_slot fit, laid_in_slots k most_marks slots ms in_range (omega arith) (omega (arith, fit)))
          (padded_taken (length marks) most_marks (in_slots 0 slots ms) (omega (arith, fit, slots_count slots ms in_range)) few)

      -- where all else is right, the marks are left to test against the draft
      pub marks_left : fences_told ≡ true → length marks ≤ most_marks
          → {told : Bool} → told ≡ marks_as_laid bands nodes marks starts (replicate most_marks 0) → told ≡ marks_right bands nodes marks
      unfolding marks_right marks_stand marks_as_laid ◌and◌
      marks_left right few same =
          rw (← in_use_tested, in_use_lem, ← fences_tested, right) (same ∙ ap (same_numbers marks) (draft_laid_lem few refl))

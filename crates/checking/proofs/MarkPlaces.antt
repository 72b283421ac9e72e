-- The test of fences and marks: where the nodes are linked and the profile that the words say stands, it passes exactly when there is room for the
-- profile's marks, the header counts them, the fences are theirs and the mark words are the profile's.
-- Assumes nothing.
use Prim.Native.Nat.{ℕ, zero, suc, ◌-◌, ◌≤◌}
use mathlib.Core.Path.{◌≡◌, sym, ◌∙◌}
use mathlib.Core.List.{List, ◌∷◌}
use native.Mathlib.Omega.{arith}
use lib.ListN.{length, drop}
use Rattle.rules.specs.Lists.{all_from}
use Rattle.rules.specs.NodesLanesEdges.{Node}
use Rattle.rules.specs.Marks.{marks_in_use}
use Rattle.rules.specs.Staircase.{slots_per_node, slot_number}
use Rattle.rules.proofs.Means.{Means, reworded, and_means, and3_means, le_means, eq_means}
use Rattle.rules.proofs.Lists.{EachLane, all_from_means, same_numbers_means}
use Rattle.rules.proofs.SoundMemory.{Standing}
use Rattle.store.specs.Places.{node_field, fence_field, header, marks_in_use_field, in_use}
use Rattle.store.specs.SaidProfile.{said_nodes, said_by}
use Rattle.store.specs.LaidMarks.{laid_marks}
use Rattle.store.proofs.LaidMarks.{fence_of}
use Rattle.store.proofs.SaidNodes.{said_nodes_length, said_here, said_in_use}
use Rattle.marking.specs.Buckets.{Mark, start_of}
use Rattle.marking.specs.Staircases.{staircases}
use Rattle.marking.proofs.Linked.{Linked}
use Rattle.marking.proofs.StaircasesLay.{marks_count, all_slots, slot_starts}
use Rattle.checking.specs.MarkPlaces.{marks_in_use_right, fence_right, fences_right, marks_stand, marks_right}

-- each fence counts the marks of the nodes before its own and of the slots before its own
abbrev pub FencesLaid : List ℕ → List ℕ → Type 0
FencesLaid bands nodes =
    (j : ℕ) (n : Node) (rest : List Node) → drop j (said_nodes nodes) ≡ n ∷ rest → (s : ℕ) → s ≤ slots_per_node
    → node_field nodes (suc j) (fence_field s)
    ≡ fence_of (said_by bands nodes) j n rest s

pub record MarksLaid (bands nodes marks : List ℕ) : Type 0 where
  -- there is room for the profile's marks, and the header counts them
  pub fit : marks_in_use (said_by bands nodes) ≤ length marks
  pub in_use_lem : node_field nodes header marks_in_use_field ≡ marks_in_use (said_by bands nodes)
  pub fence : FencesLaid bands nodes
  pub stand : marks ≡ laid_marks (length marks) (said_by bands nodes)

module _ (bands nodes marks : List ℕ) (linked : Linked nodes) (stands : Standing (said_by bands nodes)) where
  -- the marks that the bands ask for
  abbrev asked : List Mark
  asked = staircases bands nodes

  -- they are as many as the profile's marks
  in_use_means : Means (marks_in_use_right nodes (length marks) (length asked))
      ((marks_in_use (said_by bands nodes) ≤ length marks) × (node_field nodes header marks_in_use_field ≡ marks_in_use (said_by bands nodes)))
  unfolding marks_in_use_right
  in_use_means =
      rw (marks_count bands nodes linked stands)
      (and_means
      (le_means (marks_in_use (said_by bands nodes)) (length marks))
      (eq_means (node_field nodes header marks_in_use_field) (marks_in_use (said_by bands nodes))))

  -- fence s of place i is the slot's start
  abbrev AtStart : ℕ → ℕ → Type 0
  AtStart i s = node_field nodes i (fence_field s) ≡ start_of (slot_number (i - 1) s) asked

  place_fences_mean : (i : ℕ) → Means (all_from (fence_right nodes asked i) 0 (suc slots_per_node)) (EachLane (AtStart i) 0 (suc slots_per_node))
  unfolding fence_right
  place_fences_mean i =
      all_from_means 0 (suc slots_per_node) (λ s a b. eq_means (node_field nodes i (fence_field s)) (start_of (slot_number (i - 1) s) asked))

  -- the start of a slot is its fence as it is laid
  start_laid : (j : ℕ) (n : Node) (rest : List Node) → drop j (said_nodes nodes) ≡ n ∷ rest → (s : ℕ) → s ≤ slots_per_node
      → start_of (slot_number (suc j - 1) s) asked
      ≡ fence_of (said_by bands nodes) j n rest s
  start_laid j n rest at s l =
      let same : suc j - 1 ≡ j = omega arith in rw same (slot_starts bands nodes linked stands j n rest at s l)

  -- so the fences are the starts exactly when they are laid
  fences_mean : Means (fences_right nodes asked) (FencesLaid bands nodes)
  unfolding fences_right
  fences_mean =
      reworded (all_from_means 1 (in_use nodes) (λ i a b. place_fences_mean i))
      (λ h j n rest at s l.
      h (suc j) (omega arith) (omega (arith, said_in_use nodes j at)) s (omega arith) (omega arith) ∙ start_laid j n rest at s l)
      at_starts
    where
      at_starts : FencesLaid bands nodes → EachLane (λ i. EachLane (AtStart i) 0 (suc slots_per_node)) 1 (in_use nodes)
      at_starts f zero a b s c d = absurd (omega arith)
      at_starts f (suc j) a b s c d =
          let at = said_here nodes j (omega arith) in
          f j _ _ at s (omega arith) ∙ sym (start_laid j _ _ at s (omega arith))

  -- slot by slot they are the profile's mark words
  stand_means : Means (marks_stand nodes marks asked) (marks ≡ laid_marks (length marks) (said_by bands nodes))
  unfolding marks_stand laid_marks
  stand_means = rw (← said_nodes_length nodes, all_slots bands nodes linked stands) (same_numbers_means marks _)

  pub marks_mean : Means (marks_right bands nodes marks) (MarksLaid bands nodes marks)
  unfolding marks_right
  marks_mean =
      reworded
      (and3_means in_use_means fences_mean stand_means)
      (λ h. record { fit = h.0.0; in_use_lem = h.0.1; fence = h.1; stand = h.2 })
      (λ l. ((l.fit, l.in_use_lem), l.fence, l.stand))

-- A draft once the header counts lanes and marks, and once its fences are laid: what stands there, and that every other field is as it was.
-- Assumes nothing.
use Prim.Native.Nat.{ℕ, suc, ◌+◌, ◌-◌, ◌*◌, ◌≤◌, ◌<◌}
use mathlib.Core.Path.{◌≡◌, ◌∙◌}
use mathlib.Core.Bool.{true}
use mathlib.Core.Logic.{inl, inr}
use mathlib.Core.List.{List}
use native.Mathlib.Omega.{arith}
use lib.ListN.{length, get_or}
use borrow.Author.Tests.{le-leb, lt-leb}
use Rattle.rules.specs.NodesLanesEdges.{lanes}
use Rattle.rules.specs.Staircase.{slots_per_node, slot_number}
use Rattle.rules.proofs.Means.{both_and, false_and}
use Rattle.store.specs.Sizes.{node_place_words}
use Rattle.store.specs.Places.{node_field, with_node_field, fence_field, header, lane_count_field, marks_in_use_field, in_use}
use Rattle.store.specs.HasFields.{HasFields}
use Rattle.store.proofs.NodeFields.{told_kept, stored_length, stored_there, kept_elsewhere, kept_beside}
use Rattle.committing.specs.FenceDraft.{is_fence, fenced_field}

-- ---- the header counts lanes and marks

module _ (words : List ℕ) (sum : ℕ) where
  abbrev with_lanes : List ℕ
  with_lanes = with_node_field words header lane_count_field lanes

  abbrev pub with_counts : List ℕ
  with_counts = with_node_field with_lanes header marks_in_use_field sum

  pub counts_size : length with_counts ≡ length words
  counts_size = stored_length with_lanes header marks_in_use_field sum ∙ stored_length words header lane_count_field lanes

  -- nodes are as they were ..
  pub nodes_kept : (j f : ℕ) → f < node_place_words → node_field with_counts (suc j) f ≡ node_field words (suc j) f
  nodes_kept j f l =
      kept_elsewhere with_lanes header marks_in_use_field sum (suc j) f (omega arith) l (λ e. omega arith)
      ∙ kept_elsewhere words header lane_count_field lanes (suc j) f (omega arith) l (λ e. omega arith)

  -- .. and so is the rest of the header
  pub header_kept : (f : ℕ) → f < node_place_words → (f ≡ lane_count_field → ⊥) → (f ≡ marks_in_use_field → ⊥)
      → node_field with_counts header f ≡ node_field words header f
  header_kept f l no_lanes no_marks =
      kept_beside with_lanes header marks_in_use_field sum header f (omega arith) l no_marks
      ∙ kept_beside words header lane_count_field lanes header f (omega arith) l no_lanes

  module _ (has_header : node_place_words ≤ length words) where
    pub lanes_there : node_field with_counts header lane_count_field ≡ lanes
    lanes_there =
        kept_beside with_lanes header marks_in_use_field sum header lane_count_field (omega arith) (omega arith) (λ e. omega arith)
        ∙ stored_there words header lane_count_field lanes (omega arith)

    pub marks_there : node_field with_counts header marks_in_use_field ≡ sum
    marks_there = stored_there with_lanes header marks_in_use_field sum (omega (arith, stored_length words header lane_count_field lanes))

-- ---- the fences laid

module _ (old starts : List ℕ) {new : List ℕ} (laid : HasFields (length old) (fenced_field old starts) new) where
  -- the header has no fences
  pub header_unfenced : (f : ℕ) → f < node_place_words → node_field new header f ≡ node_field old header f
  unfolding fenced_field
  header_unfenced f l = told_kept old laid header f l (rw (false_and _ _ (inl (lt-leb 1 header (omega arith)))))

  -- keys, levels and links are none
  pub field_unfenced : (i f : ℕ) → f < fence_field 0 → node_field new i f ≡ node_field old i f
  unfolding fenced_field
  field_unfenced i f l =
      told_kept old laid i f (omega arith) (rw (false_and _ _ (inr (false_and _ _ (inr (lt-leb (fence_field 0) f l))))))

  -- places past those in use have none
  pub free_unfenced : (i f : ℕ) → f < node_place_words → in_use old < i → node_field new i f ≡ node_field old i f
  unfolding fenced_field
  free_unfenced i f l h = told_kept old laid i f l (rw (false_and _ _ (inr (false_and _ _ (inl (lt-leb i (in_use old) h))))))

  -- each fence of a place in use is the start of its slot
  pub fence_there : (j s : ℕ) → suc j ≤ in_use old → (in_use old + 1) * node_place_words ≤ length old → s ≤ slots_per_node
      → node_field new (suc j) (fence_field s) ≡ get_or starts (slot_number j s) 0
  unfolding fenced_field
  fence_there j s h fits l =
      let same_node : suc j - 1 ≡ j = omega arith in
      let same_slot : fence_field s - fence_field 0 ≡ s = omega arith in
      let is : is_fence (fence_field s) ≡ true = le-leb (fence_field 0) (fence_field s) (omega arith) in
      laid.at (suc j) (fence_field s) (omega arith) (omega arith)
      ∙ rw (both_and _ _ (le-leb 1 (suc j) (omega arith)) (both_and _ _ (le-leb (suc j) (in_use old) h) is), same_node, same_slot)

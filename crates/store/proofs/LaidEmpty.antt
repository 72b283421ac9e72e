-- The words of the empty profile are zeros, but for the number of lanes in the header.
-- Assumes nothing.
use Prim.Native.Nat.{ℕ, ◌+◌, ◌-◌, ◌≤◌}
use mathlib.Core.Path.{◌≡◌, ap, ◌∙◌}
use native.Mathlib.Omega.{arith}
use native.Mathlib.Nat.{sub-zero}
use lib.ListN.{set, replicate, replicate-append-replicate}
use Rattle.rules.specs.NodesLanesEdges.{lanes}
use Rattle.rules.specs.Profile.{empty_profile}
use Rattle.rules.specs.Marks.{marks_in_use}
use Rattle.store.specs.Sizes.{node_place_words}
use Rattle.store.specs.LaidNodes.{laid_header, laid_nodes}
use Rattle.store.specs.Places.{lane_count_field}
use Rattle.store.specs.Padded.{padded}
use Rattle.store.specs.LaidMarks.{laid_marks}

pub laid_nodes_none : (words : ℕ) → node_place_words ≤ words → laid_nodes words empty_profile ≡ set (replicate words 0) lane_count_field lanes
unfolding laid_nodes padded laid_header marks_in_use
laid_nodes_none words l =
    let e : node_place_words + (words - node_place_words) ≡ words = omega arith in
    ap (λ zeros. set zeros lane_count_field lanes) (replicate-append-replicate node_place_words (words - node_place_words) 0 ∙ ap (λ n. replicate n 0) e)

pub laid_marks_none : (words : ℕ) → laid_marks words empty_profile ≡ replicate words 0
unfolding laid_marks padded
laid_marks_none words = rw sub-zero

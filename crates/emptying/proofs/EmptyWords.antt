-- The memory of the empty profile in lent memory of right sizes: three slices of zeros as long as they were, but for the number of lanes.
-- Assumes nothing.
use mathlib.Core.Path.{◌≡◌, sym, ap, ◌∙◌}
use mathlib.Core.Bool.{true}
use native.Mathlib.Omega.{arith}
use lib.ListN.{length, set, replicate}
use Rattle.rules.specs.NodesLanesEdges.{lanes}
use Rattle.rules.specs.Profile.{empty_profile}
use Rattle.store.specs.Sizes.{sizes_right}
use Rattle.store.specs.Memory.{Memory, lent, lengths_in, room_in}
use Rattle.store.specs.Places.{lane_count_field}
use Rattle.store.specs.LaidNodes.{laid_nodes}
use Rattle.store.specs.LaidMarks.{laid_marks}
use Rattle.store.specs.LaidMemory.{laid_memory}
use Rattle.store.proofs.RightSizes.{sizes_in_numbers, right_lengths}
use Rattle.store.proofs.LaidEmpty.{laid_nodes_none, laid_marks_none}
use Rattle.store.proofs.LaidBands.{laid_bands_none}

pub empty_memory : (m : Memory) → sizes_right (lengths_in m) ≡ true
    → laid_memory (room_in m) empty_profile
    ≡ lent (replicate (length m.bands) 0) (set (replicate (length m.nodes) 0) lane_count_field lanes) (replicate (length m.marks) 0)
unfolding laid_memory room_in
empty_memory m right =
    let sizes = (sizes_in_numbers (length m.bands) (length m.nodes) (length m.marks)).fact right in
    let same = (right_lengths (lengths_in m) right).1 in
    let bands = laid_bands_none ∙ ap (λ n. replicate n 0) (sym sizes.0) in
    let nodes = ap (λ l. laid_nodes l.nodes empty_profile) same ∙ laid_nodes_none (length m.nodes) (omega arith) in
    let marks = ap (λ l. laid_marks l.marks empty_profile) same ∙ laid_marks_none (length m.marks) in
    λ i. lent (bands i) (nodes i) (marks i)

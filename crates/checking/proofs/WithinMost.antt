-- Once the sizes and the node places have passed, nodes and marks are within the most that the code has words for.
-- Assumes nothing.
use Prim.Native.Nat.{ℕ, ◌≤◌}
use mathlib.Core.Path.{◌≡◌}
use mathlib.Core.Bool.{true}
use mathlib.Core.List.{List}
use native.Mathlib.Omega.{arith}
use lib.ListN.{length}
use Rattle.rules.specs.Room.{most_nodes, most_marks}
use Rattle.store.specs.Sizes.{sizes_right}
use Rattle.store.specs.Memory.{lent, lengths_in}
use Rattle.store.proofs.RightSizes.{sizes_in_numbers}
use Rattle.store.specs.Places.{in_use}
use Rattle.checking.specs.NodePlaces.{node_places_right}
use Rattle.checking.proofs.NodePlaces.{node_places_mean}

pub within_most : (bands nodes marks : List ℕ) → sizes_right (lengths_in (lent bands nodes marks)) ≡ true → node_places_right nodes ≡ true
    → (in_use nodes ≤ most_nodes) × (length marks ≤ most_marks)
within_most bands nodes marks sizes places =
    let numbers = (sizes_in_numbers (length bands) (length nodes) (length marks)).fact sizes in
    let fits = ((node_places_mean nodes (omega arith)).fact places).fits in
    (omega arith, numbers.5)

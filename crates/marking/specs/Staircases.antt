-- All marks that the bands of memory ask for: number by number, each band along its staircase.
-- Assumes nothing.
use Rattle.std.specs.Prelude.{ℕ, zero, suc, ◌*◌, List, [], ◌++◌, map}
use Rattle.rules.specs.Room.{most_nodes}
use Rattle.store.specs.Sizes.{band_places}
use Rattle.marking.specs.WordWalk.{slots_of}
use Rattle.marking.specs.Buckets.{Mark, mark_of}

-- the marks of one number, in these slots
abbrev pub marks_in : ℕ → List ℕ → List Mark
marks_in number slots = map (λ s. mark_of s number) slots

-- the marks of the m numbers from b on
abbrev pub staircases_from : List ℕ → List ℕ → ℕ → ℕ → List Mark
staircases_from bands nodes b zero = []
staircases_from bands nodes b (suc m) = marks_in b (slots_of bands nodes b) ++ staircases_from bands nodes (suc b) m

-- the marks of all numbers
unfoldable pub staircases : List ℕ → List ℕ → List Mark
staircases bands nodes = staircases_from bands nodes 0 band_places

-- the most slots that one walk visits: two at each node
abbrev pub most_visited : ℕ
most_visited = 2 * most_nodes

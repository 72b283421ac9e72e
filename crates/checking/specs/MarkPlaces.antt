-- The test of fences, of the marks in each slot, of marks in use, and that all is free past the last mark: by the staircases of the bands.
-- Assumes nothing.
use Rattle.std.specs.Prelude.{ℕ, suc, ◌-◌, ◌*◌, Bool, List, leb, eqb, length, get_or, take}
use Rattle.rules.specs.Connectives.{◌and◌}
use Rattle.rules.specs.Lists.{all_from, same_numbers}
use Rattle.rules.specs.Staircase.{slots_per_node, slot_number}
use Rattle.store.specs.Places.{node_field, fence_field, header, marks_in_use_field, in_use}
use Rattle.store.specs.Padded.{padded}
use Rattle.marking.specs.Buckets.{Mark, in_slots, start_of, laid_of, with_marks}
use Rattle.marking.specs.Staircases.{staircases}

-- there is room for the marks, and the header counts them
unfoldable pub marks_in_use_right : List ℕ → ℕ → ℕ → Bool
marks_in_use_right nodes room count = leb count room and eqb (node_field nodes header marks_in_use_field) count

-- fence s of place i is the start of that slot; the tenth is how many marks stand up to the node's last
unfoldable pub fence_right : List ℕ → List Mark → ℕ → ℕ → Bool
fence_right nodes ms i s = eqb (node_field nodes i (fence_field s)) (start_of (slot_number (i - 1) s) ms)

-- the ten fences of each node
unfoldable pub fences_right : List ℕ → List Mark → Bool
fences_right nodes ms = all_from (λ i. all_from (fence_right nodes ms i) 0 (suc slots_per_node)) 1 (in_use nodes)

-- the marks stand slot by slot, and zeros after them
unfoldable pub marks_stand : List ℕ → List ℕ → List Mark → Bool
marks_stand nodes marks ms = same_numbers marks (padded (length marks) (in_slots 0 (in_use nodes * slots_per_node) ms))

-- all of these, for the marks that the bands ask for
unfoldable pub marks_right : List ℕ → List ℕ → List ℕ → Bool
marks_right bands nodes marks =
    let ms : List Mark = staircases bands nodes in
    marks_in_use_right nodes (length marks) (length ms) and fences_right nodes ms and marks_stand nodes marks ms

-- ---- as the code goes about it

-- fence s of place i is the start of that slot, where the starts are known
abbrev pub fence_at : List ℕ → List ℕ → ℕ → ℕ → Bool
fence_at nodes starts i s = eqb (node_field nodes i (fence_field s)) (get_or starts (slot_number (i - 1) s) 0)

-- the ten fences of place i are the starts of its slots and of the slot after them
unfoldable pub place_fences_at : List ℕ → List ℕ → ℕ → Bool
place_fences_at nodes starts i = all_from (fence_at nodes starts i) 0 (suc slots_per_node)

-- the fences of each node are such starts
unfoldable pub fences_at : List ℕ → List ℕ → Bool
fences_at nodes starts = all_from (place_fences_at nodes starts) 1 (in_use nodes)

-- the marks that the bands ask for, laid from these starts into a draft
unfoldable pub draft_laid : List ℕ → List ℕ → List ℕ → List ℕ → List ℕ
draft_laid bands nodes starts draft = (with_marks (laid_of starts draft) (staircases bands nodes)).marks

-- the mark words are the first of that draft
unfoldable pub marks_as_laid : List ℕ → List ℕ → List ℕ → List ℕ → List ℕ → Bool
marks_as_laid bands nodes marks starts draft = same_numbers marks (take (length marks) (draft_laid bands nodes starts draft))

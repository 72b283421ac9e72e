-- The mark words of a profile: node by node, at each its slots in order, at each slot the numbers that the rule marks there, ascending as the
-- bands do; then zeros.
-- Assumes nothing.
use Rattle.std.specs.Prelude.{ℕ, zero, suc, List, [], ◌∷◌, ◌++◌}
use Rattle.rules.specs.NodesLanesEdges.{Node}
use Rattle.rules.specs.Profile.{Profile}
use Rattle.rules.specs.Marks.{numbers_where, marked_on_node}
use Rattle.rules.specs.Staircase.{out_marked, slots_per_node}
use Rattle.store.specs.Padded.{padded}

-- the numbers marked in a slot of node n, with `rest` after it: slot 0 is the node, slot 1 + i its edge in lane i
unfoldable pub slot_marks : Profile → Node → List Node → ℕ → List ℕ
slot_marks p n rest zero = marked_on_node p n.key
slot_marks p n rest (suc i) = numbers_where (λ b. out_marked p.nodes b n rest i) p.bands

-- the marks of the m slots of node n from slot s on
abbrev pub slots_marks : Profile → Node → List Node → ℕ → ℕ → List ℕ
slots_marks p n rest s zero = []
slots_marks p n rest s (suc m) = slot_marks p n rest s ++ slots_marks p n rest (suc s) m

-- all marks of one node: those of its nine slots
unfoldable pub node_marks : Profile → Node → List Node → List ℕ
node_marks p n rest = slots_marks p n rest 0 slots_per_node

-- the marks of the nodes of a list, which are the profile's from some place on
abbrev pub laid_marks_from : Profile → List Node → List ℕ
laid_marks_from p [] = []
laid_marks_from p (n ∷ rest) = node_marks p n rest ++ laid_marks_from p rest

-- all marks, in n words
unfoldable pub laid_marks : ℕ → Profile → List ℕ
laid_marks n p = padded n (laid_marks_from p p.nodes)

-- The marks that the bands of a standing profile ask for, each in the slots that its walk visits, are the profile's marks: slot by slot, node by
-- node, and in number.
-- Assumes nothing.
use Prim.Native.Nat.{ℕ, zero, suc, ◌+◌, ◌*◌, ◌≤◌, ◌<◌}
use mathlib.Core.Path.{◌≡◌, refl, sym, ◌∙◌, ap, subst}
use mathlib.Core.List.{List, [], ◌∷◌, ◌++◌}
use native.Mathlib.Omega.{arith}
use native.Mathlib.Nat.{zero-add}
use lib.ListN.{length, drop, length-append}
use Rattle.rules.specs.NodesLanesEdges.{Node, lanes}
use Rattle.rules.specs.Profile.{Profile}
use Rattle.rules.specs.Marks.{marks_in_use, node_marked, marked_on_node}
use Rattle.rules.specs.Staircase.{slots_per_node, slot_number, out_marked, walk}
use Rattle.rules.proofs.Means.{Means, reworded, itself}
use Rattle.rules.proofs.Lists.{In, Each, Ascends, rest_follows, place_within}
use Rattle.rules.proofs.SoundMemory.{Standing}
use Rattle.rules.proofs.Theory.MarkedSlots.{SlotMarked, out_means}
use Rattle.rules.proofs.Theory.Staircase.{walk_visits, walk_visits_node, walk_ascends, marks_in_use_by_walks}
use Rattle.store.specs.LaidMarks.{slot_marks, slots_marks, node_marks, laid_marks_from}
use Rattle.store.proofs.LaidMarks.{marks_before, fence_of}
use Rattle.marking.specs.Buckets.{Mark, in_slot, in_slots, start_of}
use Rattle.marking.proofs.InSlots.{row_apart}
use Rattle.marking.proofs.BandMarks.{marks_along, numbers_in_slot, along_count}

-- the marks of all bands of a profile, of each in the slots that its walk visits
unfoldable pub walk_marks : Profile → List Mark
walk_marks p = marks_along (walk p.nodes) p.bands

-- ---- slots by their numbers

next_slot : (j s : ℕ) → suc (slot_number j s) ≡ slot_number j (suc s)
unfolding slot_number
next_slot j s = omega arith

next_node : (j : ℕ) → slot_number j 0 + slots_per_node ≡ slot_number (suc j) 0
unfolding slot_number
next_node j = omega arith

one_node_more : (k : ℕ) → suc k * slots_per_node ≡ slots_per_node + k * slots_per_node
one_node_more k = omega arith

slots_before : (j s : ℕ) → slot_number j s ≡ j * slots_per_node + s
unfolding slot_number
slots_before j s = refl

-- after the slots of k nodes come those of the next
slots_of_nodes : (k : ℕ) → k * slots_per_node ≡ slot_number k 0
unfolding slot_number
slots_of_nodes k = omega arith

-- the marks of all these nodes are those of the first so many of them
marks_before_all : (p : Profile) (ns : List Node) → laid_marks_from p ns ≡ marks_before p (length ns) ns
marks_before_all p [] = refl
marks_before_all p (n ∷ rest) = ap (◌++◌ (node_marks p n rest)) (marks_before_all p rest)

module _ (p : Profile) (stands : Standing p) where
  walks_ascend : Each (λ b. Ascends (λ s. s) 0 (walk p.nodes b)) p.bands
  walks_ascend b i =
      let ends = stands.ends_stand_lem b i in walk_ascends p.nodes b stands.keys_ascend_lem stands.levels_right_lem ends.0 ends.1

  module _ (j : ℕ) (n : Node) (rest : List Node) (at : drop j p.nodes ≡ n ∷ rest) where
    -- a band's walk visits a node's own slot exactly when the rule marks the node ..
    node_visited : Each (λ b. Means (node_marked p.nodes b n.key) (In (slot_number j 0) (walk p.nodes b))) p.bands
    node_visited b i =
        let ends = stands.ends_stand_lem b i in
        let visits = walk_visits_node p.nodes b stands.keys_ascend_lem stands.levels_right_lem ends.0 ends.1 j n rest at in
        reworded (itself (node_marked p.nodes b n.key)) visits.1 visits.0

    -- .. and the slot of its edge in a lane exactly when the rule marks that edge
    link_visited : (i : ℕ) → i < lanes
        → Each (λ b. Means (out_marked p.nodes b n rest i) (In (slot_number j (suc i)) (walk p.nodes b))) p.bands
    link_visited i l b k =
        let ends = stands.ends_stand_lem b k in
        let visits =
        walk_visits p.nodes b stands.keys_ascend_lem stands.levels_right_lem ends.0 ends.1 j (suc i) l in
        reworded
        (out_means p.nodes b i n rest)
        (λ m. visits.1 (subst (λ ms. SlotMarked p.nodes b ms (suc i)) (sym at) m))
        (λ v. subst (λ ms. SlotMarked p.nodes b ms (suc i)) at (visits.0 v))

    -- the numbers in a slot are those that the rule marks there ..
    slot_of_walks : (s : ℕ) → s ≤ lanes → in_slot (slot_number j s) (walk_marks p) ≡ slot_marks p n rest s
    unfolding walk_marks slot_marks marked_on_node
    slot_of_walks zero l =
        numbers_in_slot (walk p.nodes) (slot_number j 0) (λ b. node_marked p.nodes b n.key) p.bands walks_ascend node_visited
    slot_of_walks (suc i) l =
        numbers_in_slot (walk p.nodes) (slot_number j (suc i)) (λ b. out_marked p.nodes b n rest i) p.bands walks_ascend
        (link_visited i l)

    -- .. so are those of some of the node's slots
    slots_of_walks : (s m : ℕ) → s + m ≤ slots_per_node → in_slots (slot_number j s) m (walk_marks p) ≡ slots_marks p n rest s m
    slots_of_walks s zero l = refl
    slots_of_walks s (suc m) l = rw (slot_of_walks s (omega arith), next_slot, slots_of_walks (suc s) m (omega arith))

    node_of_walks : in_slots (slot_number j 0) slots_per_node (walk_marks p) ≡ node_marks p n rest
    unfolding node_marks
    node_of_walks = slots_of_walks 0 slots_per_node (omega arith)

  -- .. and those of all slots of the first k of the nodes from a place on
  nodes_of_walks : (j k : ℕ) (ns : List Node) → drop j p.nodes ≡ ns → k ≤ length ns
      → in_slots (slot_number j 0) (k * slots_per_node) (walk_marks p) ≡ marks_before p k ns
  nodes_of_walks j zero ns at l = refl
  nodes_of_walks j (suc k) [] at l = absurd (omega arith)
  nodes_of_walks j (suc k) (n ∷ rest) at l =
      ap (λ m. in_slots (slot_number j 0) m (walk_marks p)) (one_node_more k)
      ∙ row_apart (λ s. in_slot s (walk_marks p)) (slot_number j 0) slots_per_node (k * slots_per_node)
      ∙ rw (node_of_walks j n rest at, next_node j, nodes_of_walks (suc j) k rest (rest_follows j p.nodes at) (omega arith))

  first_nodes : (k : ℕ) → k ≤ length p.nodes → in_slots 0 (k * slots_per_node) (walk_marks p) ≡ marks_before p k p.nodes
  unfolding slot_number
  first_nodes k l = nodes_of_walks 0 k p.nodes refl l

  -- slot by slot and node by node they are all marks of the profile
  pub all_of_walks : in_slots 0 (length p.nodes * slots_per_node) (walk_marks p) ≡ laid_marks_from p p.nodes
  all_of_walks = first_nodes (length p.nodes) (omega arith) ∙ sym (marks_before_all p p.nodes)

  -- they are as many as the marks in use
  pub walks_count : length (walk_marks p) ≡ marks_in_use p
  unfolding walk_marks
  walks_count = along_count (walk p.nodes) p.bands ∙ sym (marks_in_use_by_walks p stands)

  module _ (j : ℕ) (n : Node) (rest : List Node) (at : drop j p.nodes ≡ n ∷ rest) (s : ℕ) (l : s ≤ slots_per_node) where
    -- the numbers of all slots before a slot are those of the nodes before its own and of the slots before it there ..
    before_slot : in_slots 0 (slot_number j s) (walk_marks p) ≡ marks_before p j p.nodes ++ slots_marks p n rest 0 s
    before_slot =
        ap (λ m. in_slots 0 m (walk_marks p)) (slots_before j s)
        ∙ row_apart (λ t. in_slot t (walk_marks p)) 0 (j * slots_per_node) s
        ∙ rw (first_nodes j (omega (arith, place_within j p.nodes at)), zero-add, slots_of_nodes j, slots_of_walks j n rest at 0 s (omega arith))

    -- .. and after so many its own start
    pub start_of_walks :
        start_of (slot_number j s) (walk_marks p) ≡ fence_of p j n rest s
    unfolding start_of
    start_of_walks = ap length before_slot ∙ length-append (marks_before p j p.nodes) (slots_marks p n rest 0 s)

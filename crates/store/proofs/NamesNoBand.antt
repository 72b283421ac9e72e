-- "Header and node places name no band, and a mark place holds of its band only the number and where it is marked": node words know the bands only by
-- how many are marked in each slot; a mark word in use is the number of a live band, and the mark words are known by the numbers in each slot.
-- Assumes nothing.
use Prim.Native.Nat.{ℕ, zero, suc, ◌+◌, ◌≤◌}
use mathlib.Core.Path.{◌≡◌, refl, sym, ap, ap₂, ◌∙◌}
use mathlib.Core.List.{List, [], ◌∷◌, ◌++◌}
use native.Mathlib.Omega.{arith}
use lib.ListN.{length, drop, replicate, length-append}
use Rattle.rules.specs.NodesLanesEdges.{Node, lanes}
use Rattle.rules.specs.Profile.{Profile}
use Rattle.rules.specs.Marks.{marks_in_use}
use Rattle.rules.specs.Staircase.{slots_per_node, out_marked}
use Rattle.rules.proofs.Means.{itself}
use Rattle.rules.proofs.Lists.{Some, Each, each_append, rest_follows}
use Rattle.rules.proofs.Marks.{in_numbers, in_marked_on_node}
use Rattle.store.specs.Padded.{padded}
use Rattle.store.specs.LaidMarks.{slot_marks, slots_marks, node_marks, laid_marks_from, laid_marks}
use Rattle.store.specs.LaidNodes.{links_from, first_links_from, fences_from, laid_header, laid_node, laid_nodes_from, laid_nodes}
use Rattle.store.proofs.LaidMarks.{laid_marks_count}

-- of each node of a profile, with those after it, and each of its nine slots
abbrev pub EachSlot : (Node → List Node → ℕ → Type 0) → Profile → Type 0
EachSlot P p = (j : ℕ) (n : Node) (rest : List Node) → drop j p.nodes ≡ n ∷ rest → (s : ℕ) → s ≤ lanes → P n rest s

-- ---- header and node places name no band

module _ (p q : Profile) (n : Node) (rest : List Node)
    (same : (s : ℕ) → s ≤ lanes → length (slot_marks p n rest s) ≡ length (slot_marks q n rest s)) where
  -- m slots with as many marks each from slot s on have as many together ..
  slots_count_same : (s m : ℕ) → s + m ≤ slots_per_node → length (slots_marks p n rest s m) ≡ length (slots_marks q n rest s m)
  slots_count_same s zero l = refl
  slots_count_same s (suc m) l =
      omega (
        arith,
        length-append (slot_marks p n rest s) (slots_marks p n rest (suc s) m),
        length-append (slot_marks q n rest s) (slots_marks q n rest (suc s) m),
        same s (omega arith),
        slots_count_same (suc s) m (omega arith),
      )

  node_count_same : length (node_marks p n rest) ≡ length (node_marks q n rest)
  unfolding node_marks
  node_count_same = slots_count_same 0 slots_per_node (omega arith)

  -- .. and the same fences
  fences_same : (at s m : ℕ) → s + m ≤ slots_per_node → fences_from p n rest at s m ≡ fences_from q n rest at s m
  fences_same at s zero l = refl
  fences_same at s (suc m) l =
      ap (λ fs. at ∷ fs)
      (ap (λ c. fences_from p n rest (at + c) (suc s) m) (same s (omega arith))
      ∙ fences_same (at + length (slot_marks q n rest s)) (suc s) m (omega arith))

  -- so the node's place is the same
  place_same : (j at : ℕ) → laid_node p j at n rest ≡ laid_node q j at n rest
  unfolding laid_node
  place_same j at = ap (λ fs. n.key ∷ n.level ∷ links_from j n rest 0 lanes ++ fs) (fences_same at 0 slots_per_node (omega arith))

module _ (p q : Profile) (nodes : p.nodes ≡ q.nodes)
    (same : EachSlot (λ n rest s. length (slot_marks p n rest s) ≡ length (slot_marks q n rest s)) p) where
  places_same : (j i at : ℕ) (ms : List Node) → drop j p.nodes ≡ ms → laid_nodes_from p i at ms ≡ laid_nodes_from q i at ms
  places_same j i at [] e = refl
  places_same j i at (n ∷ rest) e =
      let here = same j n rest e in
      ap₂ (λ (ws vs : List ℕ). ws ++ vs) (place_same p q n rest here i at)
      (ap (λ c. laid_nodes_from p (suc i) (at + c) rest) (node_count_same p q n rest here)
      ∙ places_same (suc j) (suc i) (at + length (node_marks q n rest)) rest (rest_follows j p.nodes e))

  count_same : (j : ℕ) (ms : List Node) → drop j p.nodes ≡ ms → length (laid_marks_from p ms) ≡ length (laid_marks_from q ms)
  count_same j [] e = refl
  count_same j (n ∷ rest) e =
      omega (
        arith,
        length-append (node_marks p n rest) (laid_marks_from p rest),
        length-append (node_marks q n rest) (laid_marks_from q rest),
        node_count_same p q n rest (same j n rest e),
        count_same (suc j) rest (rest_follows j p.nodes e),
      )

  -- marks in use are all these marks
  in_use_same : marks_in_use p ≡ marks_in_use q
  in_use_same =
      sym (laid_marks_count p) ∙ count_same 0 p.nodes refl ∙ ap (λ ns. length (laid_marks_from q ns)) nodes ∙ laid_marks_count q

  header_same : laid_header p ≡ laid_header q
  unfolding laid_header
  header_same =
      λ i. length (nodes i) ∷ lanes ∷ first_links_from (nodes i) 0 lanes ++ in_use_same i ∷ replicate slots_per_node 0

  -- header and node places are known by the nodes and by how many bands are marked in each slot: whatever the bands are
  pub node_words_by_counts : (w : ℕ) → laid_nodes w p ≡ laid_nodes w q
  unfolding laid_nodes
  node_words_by_counts w =
      ap (padded w)
      (ap₂ (λ (ws vs : List ℕ). ws ++ vs) header_same (places_same 0 1 0 p.nodes refl ∙ ap (laid_nodes_from q 1 0) nodes))

-- ---- a mark place holds the number of its band

module _ (p : Profile) where
  -- x is the number of a live band
  abbrev Numbered : ℕ → Type 0
  Numbered x = Some (λ b. b.number ≡ x) p.bands

  slot_numbered : (n : Node) (rest : List Node) (s : ℕ) → Each Numbered (slot_marks p n rest s)
  unfolding slot_marks
  slot_numbered n rest zero x i = let t = (in_marked_on_node p x n.key).0 i in (t.0, t.1, t.2.1)
  slot_numbered n rest (suc l) x i =
      let t = (in_numbers (λ b. itself (out_marked p.nodes b n rest l)) x p.bands).0 i in (t.0, t.1, t.2.1)

  slots_numbered : (n : Node) (rest : List Node) (s m : ℕ) → Each Numbered (slots_marks p n rest s m)
  slots_numbered n rest s zero = λ x i. absurd i
  slots_numbered n rest s (suc m) =
      each_append (slot_marks p n rest s) (slots_marks p n rest (suc s) m) (slot_numbered n rest s) (slots_numbered n rest (suc s) m)

  numbered_from : (ms : List Node) → Each Numbered (laid_marks_from p ms)
  unfolding node_marks
  numbered_from [] = λ x i. absurd i
  numbered_from (n ∷ rest) =
      each_append (node_marks p n rest) (laid_marks_from p rest) (slots_numbered n rest 0 slots_per_node) (numbered_from rest)

  -- every mark word in use is the number of a live band
  pub mark_words_are_numbers : Each (λ x. Some (λ b. b.number ≡ x) p.bands) (laid_marks_from p p.nodes)
  mark_words_are_numbers = numbered_from p.nodes

-- ---- and of its band only that, and where it is marked

module _ (p q : Profile) (nodes : p.nodes ≡ q.nodes) (same : EachSlot (λ n rest s. slot_marks p n rest s ≡ slot_marks q n rest s) p) where
  slots_same : (n : Node) (rest : List Node) → ((s : ℕ) → s ≤ lanes → slot_marks p n rest s ≡ slot_marks q n rest s) → (s m : ℕ)
      → s + m ≤ slots_per_node → slots_marks p n rest s m ≡ slots_marks q n rest s m
  slots_same n rest here s zero l = refl
  slots_same n rest here s (suc m) l =
      ap₂ (λ (ws vs : List ℕ). ws ++ vs) (here s (omega arith)) (slots_same n rest here (suc s) m (omega arith))

  marks_same : (j : ℕ) (ms : List Node) → drop j p.nodes ≡ ms → laid_marks_from p ms ≡ laid_marks_from q ms
  unfolding node_marks
  marks_same j [] e = refl
  marks_same j (n ∷ rest) e =
      ap₂ (λ (ws vs : List ℕ). ws ++ vs) (slots_same n rest (same j n rest e) 0 slots_per_node (omega arith))
      (marks_same (suc j) rest (rest_follows j p.nodes e))

  -- mark places are known by the nodes and by the numbers in each slot ..
  pub mark_words_by_numbers : (w : ℕ) → laid_marks w p ≡ laid_marks w q
  unfolding laid_marks
  mark_words_by_numbers w = ap (padded w) (marks_same 0 p.nodes refl ∙ ap (laid_marks_from q) nodes)

  -- .. and so are header and node places: only the band places say more of the bands
  pub node_words_by_numbers : (w : ℕ) → laid_nodes w p ≡ laid_nodes w q
  node_words_by_numbers = node_words_by_counts p q nodes (λ j n rest e s l. ap length (same j n rest e s l))

-- The mark words of a profile: as many as the marks in use; and those of a slot stand after the marks of the nodes before it and of the slots
-- before it at its node, which is what the slot's fence counts.
-- Assumes nothing.
use Prim.Native.Nat.{ℕ, zero, suc, ◌+◌, ◌-◌, ◌≤◌}
use mathlib.Core.Path.{◌≡◌, refl, sym, ap, ◌∙◌}
use mathlib.Core.Bool.{Bool, true, false}
use mathlib.Core.List.{List, [], ◌∷◌, ◌++◌, append_assoc, append-nil}
use native.Mathlib.Omega.{arith}
use native.Mathlib.Numerals.{add-one}
use native.Mathlib.Nat.{zero-add, add-zero, suc-add, add-suc}
use lib.ListN.{length, drop, replicate, length-append}
use Rattle.rules.specs.Lists.{add_if, sum_of}
use Rattle.rules.specs.HallLine.{Band}
use Rattle.rules.specs.NodesLanesEdges.{Node, lanes}
use Rattle.rules.specs.Profile.{Profile}
use Rattle.rules.specs.Marks.{marks_in_use, numbers_where, marked_on_node, node_marked}
use Rattle.rules.specs.Staircase.{slots_per_node, slot_number, out_marked, marked_links, marked_slots_from, marked_slots}
use Rattle.rules.proofs.Sums.{sum_same, sum_zero, sum_plus}
use Rattle.rules.proofs.Theory.MarkedSlots.{slot_count}
use Rattle.store.specs.SaidMarks.{between}
use Rattle.store.specs.LaidMarks.{slot_marks, slots_marks, node_marks, laid_marks_from, laid_marks}
use Rattle.store.specs.Padded.{padded}
use Rattle.store.proofs.Between.{between_at}
use Rattle.store.proofs.Padded.{padded_length}

-- ---- as many as the marks in use

-- one number put first for each band that passes makes as many more as the numbers of those bands
count_first : (f : Band → Bool) (x : ℕ) (g : Band → List ℕ) (bs : List Band)
    → sum_of (λ b. length (add_if (f b) x (g b))) bs ≡ length (numbers_where f bs) + sum_of (λ b. length (g b)) bs
count_first f x g [] = refl
count_first f x g (b ∷ bs) = go (f b) (count_first f x g bs)
  where
    go : (t : Bool) → sum_of (λ c. length (add_if (f c) x (g c))) bs ≡ length (numbers_where f bs) + sum_of (λ c. length (g c)) bs
        → length (add_if t x (g b)) + sum_of (λ c. length (add_if (f c) x (g c))) bs
        ≡ length (add_if t b.number (numbers_where f bs)) + (length (g b) + sum_of (λ c. length (g c)) bs)
    go true e = omega arith
    go false e = omega arith

-- two lists of each band, joined, are as long as the first lists and the second
count_joined : (g h : Band → List ℕ) (bs : List Band)
    → sum_of (λ b. length (g b ++ h b)) bs ≡ sum_of (λ b. length (g b)) bs + sum_of (λ b. length (h b)) bs
count_joined g h bs = sum_same bs (λ b i. length-append (g b) (h b)) ∙ sum_plus (λ b. length (g b)) (λ b. length (h b)) bs

module _ (p : Profile) where
  -- the marks of a node's m links from lane i up, slot by slot and band by band
  links_count : (j : ℕ) (n : Node) (rest : List Node) (i m : ℕ)
      → length (slots_marks p n rest (suc i) m) ≡ sum_of (λ b. length (marked_links p.nodes b j n rest i m)) p.bands
  unfolding slot_marks
  links_count j n rest i zero = sym (sum_zero p.bands)
  links_count j n rest i (suc m) =
      omega (
        arith,
        length-append (numbers_where (λ b. out_marked p.nodes b n rest i) p.bands) (slots_marks p n rest (suc (suc i)) m),
        count_first (λ b. out_marked p.nodes b n rest i) (slot_number j (suc i)) (λ b. marked_links p.nodes b j n rest (suc i) m) p.bands,
        links_count j n rest (suc i) m,
      )

  -- .. and those of all slots of these nodes
  count_from_lem : (j : ℕ) (ms : List Node)
      → length (laid_marks_from p ms) ≡ sum_of (λ b. length (marked_slots_from p.nodes b j ms)) p.bands
  unfolding node_marks slot_marks marked_on_node
  count_from_lem j [] = sym (sum_zero p.bands)
  count_from_lem j (n ∷ rest) =
      let first : Band → Bool = λ b. node_marked p.nodes b n.key in
      let links : Band → List ℕ = λ b. marked_links p.nodes b j n rest 0 lanes in
      omega (
        arith,
        length-append (node_marks p n rest) (laid_marks_from p rest),
        length-append (numbers_where first p.bands) (slots_marks p n rest 1 lanes),
        links_count j n rest 0 lanes,
        count_from_lem (suc j) rest,
        count_joined (λ b. add_if (first b) (slot_number j 0) (links b)) (λ b. marked_slots_from p.nodes b (suc j) rest) p.bands,
        count_first first (slot_number j 0) links p.bands,
      )

  -- the mark words are as many as the marks in use
  pub laid_marks_count : length (laid_marks_from p p.nodes) ≡ marks_in_use p
  unfolding marks_in_use marked_slots
  laid_marks_count = count_from_lem 0 p.nodes ∙ sum_same p.bands (λ b i. slot_count p.nodes b)

-- they fill a room that has enough
pub laid_marks_length : (room : ℕ) (p : Profile) → marks_in_use p ≤ room → length (laid_marks room p) ≡ room
unfolding laid_marks
laid_marks_length room p l = padded_length room (laid_marks_from p p.nodes) (omega (arith, laid_marks_count p))

-- ---- where the marks of a slot stand

-- the marks of the first j of these nodes
abbrev pub marks_before : Profile → ℕ → List Node → List ℕ
marks_before p zero ms = []
marks_before p (suc j) [] = []
marks_before p (suc j) (n ∷ rest) = node_marks p n rest ++ marks_before p j rest

-- fence s of the node with j others before it: how many marks these nodes and the slots before s have
abbrev pub fence_of : Profile → ℕ → Node → List Node → ℕ → ℕ
fence_of p j n rest s = length (marks_before p j p.nodes) + length (slots_marks p n rest 0 s)

marks_from_place : (p : Profile) (j : ℕ) (ms : List Node) → laid_marks_from p ms ≡ marks_before p j ms ++ laid_marks_from p (drop j ms)
marks_from_place p zero ms = refl
marks_from_place p (suc j) [] = refl
marks_from_place p (suc j) (n ∷ rest) = rw (marks_from_place p j rest, append_assoc)

module _ (p : Profile) (n : Node) (rest : List Node) where
  slots_cut : (i s m : ℕ) → slots_marks p n rest i (s + m) ≡ slots_marks p n rest i s ++ slots_marks p n rest (i + s) m
  slots_cut i zero m = rw (zero-add m, add-zero i)
  slots_cut i (suc s) m = rw (suc-add s m, add-suc i s, slots_cut (suc i) s m, suc-add i s, append_assoc)

  -- up to the next slot there are the slot's own marks more
  slots_more : (s : ℕ) → length (slots_marks p n rest 0 (suc s)) ≡ length (slots_marks p n rest 0 s) + length (slot_marks p n rest s)
  slots_more s =
      ap (λ k. length (slots_marks p n rest 0 k)) (sym (add-one s))
      ∙ rw (slots_cut 0 s 1, append-nil, zero-add) (length-append (slots_marks p n rest 0 s) (slot_marks p n rest s))

  -- a node's marks are those of the slots before slot s, those of slot s, and those of the slots after it
  node_cut : (s : ℕ) → s ≤ lanes
      → node_marks p n rest ≡ slots_marks p n rest 0 s ++ (slot_marks p n rest s ++ slots_marks p n rest (suc s) (lanes - s))
  unfolding node_marks
  node_cut s l =
      let e : slots_per_node ≡ s + suc (lanes - s) = omega arith in
      ap (slots_marks p n rest 0) e ∙ rw (slots_cut 0 s (suc (lanes - s)), zero-add)

-- past fence s of the node at place j + 1, up to its next fence, stand the marks of slot s
pub slot_between : (words : ℕ) (p : Profile) (j : ℕ) (n : Node) (rest : List Node) → drop j p.nodes ≡ n ∷ rest → (s : ℕ) → s ≤ lanes
    → between
    (fence_of p j n rest s)
    (fence_of p j n rest (suc s))
    (laid_marks words p)
    ≡ slot_marks p n rest s
unfolding laid_marks padded
slot_between words p j n rest at s l =
    let before : List ℕ = marks_before p j p.nodes in
    let slots : List ℕ = slots_marks p n rest 0 s in
    let after : List ℕ = slots_marks p n rest (suc s) (lanes - s) ++ laid_marks_from p rest in
    let zeros : List ℕ = replicate (words - length (laid_marks_from p p.nodes)) 0 in
    let cut : laid_marks_from p p.nodes ≡ before ++ slots ++ (slot_marks p n rest s ++ after) =
    marks_from_place p j p.nodes ∙ rw (at, node_cut p n rest s l) (simp append_assoc) in
    between_at (laid_marks words p) (before ++ slots) (slot_marks p n rest s) (after ++ zeros) _ _
    (ap (λ ms. ms ++ zeros) cut ∙ simp append_assoc) (length-append before slots) (omega (arith, slots_more p n rest s))

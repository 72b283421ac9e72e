-- The words of a node place: two words, a link for each lane, and ten words more. The header and each record are such words.
-- Assumes nothing.
use Prim.Native.Nat.{ℕ, zero, suc, ◌+◌, ◌≤◌, ◌<◌}
use mathlib.Core.Path.{◌≡◌, refl, ap, ◌∙◌}
use mathlib.Core.List.{List, [], ◌∷◌, ◌++◌}
use native.Mathlib.Omega.{arith}
use native.Mathlib.Nat.{zero-add}
use lib.ListN.{length, get_or, replicate, length-append, get_or-append}
use lib.Seq.{get_or-append-add}
use Rattle.rules.specs.NodesLanesEdges.{Node, lanes}
use Rattle.rules.specs.Profile.{Profile}
use Rattle.rules.specs.Marks.{marks_in_use}
use Rattle.rules.specs.Staircase.{slots_per_node}
use Rattle.rules.proofs.Lists.{made_length, made_at}
use Rattle.store.specs.Sizes.{node_place_words}
use Rattle.store.specs.Places.{link_field, fence_field}
use Rattle.store.specs.LaidMarks.{slot_marks, slots_marks}
use Rattle.store.specs.LaidNodes.{next_place, link_of, links_from, first_links_from, fences_from, laid_header, laid_node}

pub record PlaceWords (words : List ℕ) (link : ℕ → ℕ) (others : List ℕ) : Type 0 where
  pub size : length words ≡ node_place_words
  pub link_at : (i : ℕ) → i < lanes → get_or words (link_field i) 0 ≡ link i
  pub other_at : (s : ℕ) → get_or words (fence_field s) 0 ≡ get_or others s 0

place_words : (a b : ℕ) (link : ℕ → ℕ) (made : ℕ → ℕ → List ℕ) (none : (i : ℕ) → made i zero ≡ [])
    (more : (i m : ℕ) → made i (suc m) ≡ link i ∷ made (suc i) m) (others : List ℕ) → length others ≡ suc slots_per_node
    → PlaceWords (a ∷ b ∷ made 0 lanes ++ others) link others
place_words a b link made none more others ten =
    let links : List ℕ = made 0 lanes in
    let all : length links ≡ lanes = made_length link made none more 0 lanes in
    record {
      size = omega (arith, length-append links others);
      link_at =
          λ i l.
          get_or-append-add (a ∷ b ∷ []) (links ++ others) i 0
          ∙ get_or-append links others 0 i (omega arith)
          ∙ made_at link made none more 0 0 lanes i l
          ∙ rw zero-add;
      other_at =
          λ s.
          let e : fence_field s ≡ length (a ∷ b ∷ links) + s = omega arith in
          ap (λ f. get_or (a ∷ b ∷ links ++ others) f 0) e ∙ get_or-append-add (a ∷ b ∷ links) others s 0;
    }

-- the header: after its links the marks in use, and zeros
pub header_words : (p : Profile) → PlaceWords (laid_header p) (λ i. next_place i 1 p.nodes) (marks_in_use p ∷ replicate slots_per_node 0)
unfolding laid_header
header_words p =
    place_words (length p.nodes) lanes (λ i. next_place i 1 p.nodes) (first_links_from p.nodes) (λ i. refl) (λ i m. refl)
    (marks_in_use p ∷ replicate slots_per_node 0) refl

module _ (p : Profile) (n : Node) (rest : List Node) where
  fences_length : (at s m : ℕ) → length (fences_from p n rest at s m) ≡ suc m
  fences_length at s zero = refl
  fences_length at s (suc m) = ap suc (fences_length (at + length (slot_marks p n rest s)) (suc s) m)

  -- a fence is higher than the first by as many marks as there are in the slots before it
  pub fence_at_lem : (at s m t : ℕ) → t ≤ m → get_or (fences_from p n rest at s m) t 0 ≡ at + length (slots_marks p n rest s t)
  fence_at_lem at s zero zero l = omega arith
  fence_at_lem at s zero (suc t) l = absurd (omega arith)
  fence_at_lem at s (suc m) zero l = omega arith
  fence_at_lem at s (suc m) (suc t) l =
      omega (
        arith,
        fence_at_lem (at + length (slot_marks p n rest s)) (suc s) m t (omega arith),
        length-append (slot_marks p n rest s) (slots_marks p n rest (suc s) t),
      )

  -- a record: after its links the fences
  pub record_words : (j at : ℕ)
      → PlaceWords (laid_node p j at n rest) (link_of j n rest) (fences_from p n rest at 0 slots_per_node)
  unfolding laid_node
  record_words j at =
      place_words n.key n.level (link_of j n rest) (links_from j n rest) (λ i. refl) (λ i m. refl)
      (fences_from p n rest at 0 slots_per_node) (fences_length at 0 slots_per_node)

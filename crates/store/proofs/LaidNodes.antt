-- The node words of a profile: how many they are, and what stands in the fields of each place.
-- Assumes nothing.
use Prim.Native.Nat.{ℕ, zero, suc, ◌+◌, ◌-◌, ◌*◌, ◌≤◌, ◌<◌}
use mathlib.Core.Path.{◌≡◌, refl, sym, ap, ◌∙◌}
use mathlib.Core.List.{List, [], ◌∷◌, ◌++◌, append_assoc}
use native.Mathlib.Omega.{arith}
use native.Mathlib.Nat.{add-zero, zero-add, add-suc, suc-add, add_assoc}
use lib.ListN.{length, get_or, take, drop, replicate, length-append, get_or-append, get_or-replicate}
use lib.Seq.{drop-nil, drop-drop, drop_at, drop-append-le, get_or-append-add, get_or-drop}
use Rattle.rules.specs.NodesLanesEdges.{Node, lanes}
use Rattle.rules.specs.Profile.{Profile}
use Rattle.rules.specs.Marks.{marks_in_use}
use Rattle.rules.specs.Staircase.{slots_per_node}
use Rattle.store.specs.Sizes.{node_place_words}
use Rattle.store.specs.Places.{node_field, key_field, level_field, link_field, fence_field, header, nodes_in_use_field, marks_in_use_field, in_use}
use Rattle.store.specs.LaidMarks.{node_marks}
use Rattle.store.specs.LaidNodes.{next_place, laid_header, laid_node, laid_nodes_from, laid_nodes, link_of}
use Rattle.store.specs.Padded.{padded}
use Rattle.rules.proofs.Lists.{place_within}
use Rattle.store.proofs.Padded.{padded_length, padded_taken}
use Rattle.store.proofs.PlaceWords.{header_words, fence_at_lem, record_words}
use Rattle.store.proofs.LaidMarks.{marks_before, fence_of}

-- ---- how many words

pub records_length : (p : Profile) (j at : ℕ) (ms : List Node) → length (laid_nodes_from p j at ms) ≡ node_place_words * length ms
records_length p j at [] = refl
records_length p j at (n ∷ rest) =
    let further : ℕ = at + length (node_marks p n rest) in
    omega (
      arith,
      length-append (laid_node p j at n rest) (laid_nodes_from p (suc j) further rest),
      (record_words p n rest j at).size,
      records_length p (suc j) further rest,
    )

-- header and records fill a room that has enough
pub laid_nodes_length : (room : ℕ) (p : Profile) → length p.nodes ≤ room
    → length (laid_nodes (node_place_words * (room + 1)) p) ≡ node_place_words * (room + 1)
unfolding laid_nodes
laid_nodes_length room p l =
    let records : List ℕ = laid_nodes_from p 1 0 p.nodes in
    padded_length (node_place_words * (room + 1)) (laid_header p ++ records)
    (omega (arith, length-append (laid_header p) records, (header_words p).size, records_length p 1 0 p.nodes))

-- the node words of a profile, of fewer words that it fits, are the first of its node words of more
pub laid_nodes_taken : (room more : ℕ) (p : Profile) → length p.nodes ≤ room → room ≤ more
    → take (node_place_words * (room + 1)) (laid_nodes (node_place_words * (more + 1)) p) ≡ laid_nodes (node_place_words * (room + 1)) p
unfolding laid_nodes
laid_nodes_taken room more p fit h =
    let records : List ℕ = laid_nodes_from p 1 0 p.nodes in
    padded_taken (node_place_words * (room + 1)) (node_place_words * (more + 1)) (laid_header p ++ records)
    (omega (arith, length-append (laid_header p) records, (header_words p).size, records_length p 1 0 p.nodes))
    (omega arith)

-- ---- places

-- past the first j records are those of the nodes past the first j, with the marks of the first j before theirs
records_from_place : (p : Profile) (j k at : ℕ) (ms : List Node)
    → drop (j * node_place_words) (laid_nodes_from p k at ms) ≡ laid_nodes_from p (k + j) (at + length (marks_before p j ms)) (drop j ms)
records_from_place p zero k at ms = rw (add-zero k, add-zero at)
records_from_place p (suc j) k at [] = drop-nil (suc j * node_place_words)
records_from_place p (suc j) k at (n ∷ rest) =
    let here : List ℕ = laid_node p k at n rest in
    let further : ℕ = at + length (node_marks p n rest) in
    let others : List ℕ = laid_nodes_from p (suc k) further rest in
    let e : suc j * node_place_words ≡ node_place_words + j * node_place_words = omega arith in
    ap (λ q. drop q (here ++ others)) e
    ∙ sym (drop-drop (j * node_place_words) node_place_words (here ++ others))
    ∙ rw (drop_at here others node_place_words (record_words p n rest k at).size, records_from_place p j (suc k) further rest)
    (rw (suc-add, add-suc, length-append, add_assoc))

module _ (words : ℕ) (p : Profile) where
  -- place 0 is the header's
  pub header_field : (f : ℕ) → f < node_place_words → node_field (laid_nodes words p) header f ≡ get_or (laid_header p) f 0
  unfolding node_field laid_nodes padded
  header_field f l =
      let e : header * node_place_words + f ≡ f = omega arith in
      rw (e, append_assoc) (get_or-append (laid_header p) _ 0 f (omega (arith, (header_words p).size)))

  -- place j + 1 has the record of the node that stands there
  pub node_field_lem : (j : ℕ) (n : Node) (rest : List Node) → drop j p.nodes ≡ n ∷ rest → (f : ℕ) → f < node_place_words
      → node_field (laid_nodes words p) (suc j) f ≡ get_or (laid_node p (suc j) (length (marks_before p j p.nodes)) n rest) f 0
  unfolding node_field laid_nodes padded
  node_field_lem j n rest at f l =
      let before : ℕ = length (marks_before p j p.nodes) in
      let records : List ℕ = laid_nodes_from p 1 0 p.nodes in
      let zeros : List ℕ = replicate (words - length (laid_header p ++ records)) 0 in
      let e : suc j * node_place_words + f ≡ length (laid_header p) + (j * node_place_words + f) = omega (arith, (header_words p).size) in
      let w : j * node_place_words ≤ length records = omega (arith, records_length p 1 0 p.nodes, place_within j p.nodes at) in
      let d : 1 + j ≡ suc j = omega arith in
      rw (e, append_assoc, get_or-append-add, ← get_or-drop (j * node_place_words) (records ++ zeros) f 0, drop-append-le, records_from_place, at)
      (rw (d, zero-add, append_assoc)
      (get_or-append (laid_node p (suc j) before n rest) _ 0 f (omega (arith, (record_words p n rest (suc j) before).size))))

  -- ---- fields of the header

  pub laid_in_use : in_use (laid_nodes words p) ≡ length p.nodes
  unfolding laid_header
  laid_in_use = header_field nodes_in_use_field (omega arith)

  pub laid_marks_in_use : node_field (laid_nodes words p) header marks_in_use_field ≡ marks_in_use p
  laid_marks_in_use = header_field marks_in_use_field (omega arith) ∙ (header_words p).other_at 0

  pub laid_first_link : (i : ℕ) → i < lanes → node_field (laid_nodes words p) header (link_field i) ≡ next_place i 1 p.nodes
  laid_first_link i l = header_field (link_field i) (omega arith) ∙ (header_words p).link_at i l

  -- where a record has its fences after the first, the header has zeros
  pub laid_header_zero : (s : ℕ) → s < slots_per_node → node_field (laid_nodes words p) header (fence_field (suc s)) ≡ 0
  laid_header_zero s l =
      header_field (fence_field (suc s)) (omega arith) ∙ (header_words p).other_at (suc s) ∙ get_or-replicate slots_per_node s 0 0 l

  -- ---- fields of a node

  module _ (j : ℕ) (n : Node) (rest : List Node) (at : drop j p.nodes ≡ n ∷ rest) where
    pub laid_key : node_field (laid_nodes words p) (suc j) key_field ≡ n.key
    unfolding laid_node
    laid_key = node_field_lem j n rest at key_field (omega arith)

    pub laid_level : node_field (laid_nodes words p) (suc j) level_field ≡ n.level
    unfolding laid_node
    laid_level = node_field_lem j n rest at level_field (omega arith)

    pub laid_link : (i : ℕ) → i < lanes
        → node_field (laid_nodes words p) (suc j) (link_field i) ≡ link_of (suc j) n rest i
    laid_link i l =
        node_field_lem j n rest at (link_field i) (omega arith)
        ∙ (record_words p n rest (suc j) (length (marks_before p j p.nodes))).link_at i l

    pub laid_fence : (s : ℕ) → s ≤ slots_per_node
        → node_field (laid_nodes words p) (suc j) (fence_field s) ≡ fence_of p j n rest s
    laid_fence s l =
        let before : ℕ = length (marks_before p j p.nodes) in
        node_field_lem j n rest at (fence_field s) (omega arith)
        ∙ (record_words p n rest (suc j) before).other_at s
        ∙ fence_at_lem p n rest before 0 slots_per_node s l

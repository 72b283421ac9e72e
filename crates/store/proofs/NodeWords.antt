-- The node words of a profile by their fields: what stands in each field of each place and past the last, and that this makes out the words.
-- Assumes nothing.
use Prim.Native.Nat.{ℕ, zero, suc, ◌+◌, ◌-◌, ◌*◌, ◌/◌, ◌%◌, ◌≤◌, ◌<◌}
use mathlib.Core.Path.{◌≡◌, sym, subst, ◌∙◌}
use mathlib.Core.Logic.{⊎_elim}
use mathlib.Core.List.{List, ◌∷◌, ◌++◌}
use native.Mathlib.Omega.{arith}
use lib.ListN.{length, get_or, drop, length-append}
use lib.Seq.{drop-cons, ext_get_or}
use Rattle.rules.specs.NodesLanesEdges.{Node, node_of, lanes}
use Rattle.rules.specs.Profile.{Profile}
use Rattle.rules.specs.Marks.{marks_in_use}
use Rattle.rules.specs.Staircase.{slots_per_node}
use Rattle.rules.proofs.Means.{at_most_or_above}
use Rattle.store.specs.Sizes.{node_place_words}
use Rattle.store.specs.Places.{node_field, key_field, level_field, link_field, fence_field, header, lane_count_field, marks_in_use_field, in_use}
use Rattle.store.specs.LaidNodes.{next_place, laid_header, laid_nodes_from, laid_nodes, link_of}
use Rattle.store.proofs.NodeFields.{word_in_place}
use Rattle.store.proofs.Padded.{padded_past}
use Rattle.store.proofs.PlaceWords.{header_words}
use Rattle.store.proofs.LaidMarks.{fence_of}
use Rattle.store.proofs.LaidNodes.{records_length, header_field, laid_in_use, laid_marks_in_use, laid_first_link, laid_header_zero, laid_key, laid_level, laid_link, laid_fence}

-- the fields of the node at place j + 1, with `rest` after it
pub record RecordWords (p : Profile) (nodes : List ℕ) (j : ℕ) (n : Node) (rest : List Node) : Type 0 where
  pub key : node_field nodes (suc j) key_field ≡ n.key
  pub level : node_field nodes (suc j) level_field ≡ n.level
  pub link : (i : ℕ) → i < lanes → node_field nodes (suc j) (link_field i) ≡ link_of (suc j) n rest i
  pub fence : (s : ℕ) → s ≤ slots_per_node
      → node_field nodes (suc j) (fence_field s) ≡ fence_of p j n rest s

pub record NodeWords (p : Profile) (nodes : List ℕ) : Type 0 where
  pub in_use_lem : in_use nodes ≡ length p.nodes
  pub lane_count : node_field nodes header lane_count_field ≡ lanes
  pub first_link : (i : ℕ) → i < lanes → node_field nodes header (link_field i) ≡ next_place i 1 p.nodes
  pub marks_in_use_lem : node_field nodes header marks_in_use_field ≡ marks_in_use p
  -- where a record has its fences after the first, the header has zeros
  pub spare : (s : ℕ) → s < slots_per_node → node_field nodes header (fence_field (suc s)) ≡ 0
  pub place : (j : ℕ) (n : Node) (rest : List Node) → drop j p.nodes ≡ n ∷ rest → RecordWords p nodes j n rest
  -- every place past the last node is free
  pub rest_free_lem : (q : ℕ) → (length p.nodes + 1) * node_place_words ≤ q → get_or nodes q 0 ≡ 0

-- the node words of a profile have these fields
pub laid_node_words : (words : ℕ) (p : Profile) → NodeWords p (laid_nodes words p)
unfolding laid_header laid_nodes
laid_node_words words p =
    let records : List ℕ = laid_nodes_from p 1 0 p.nodes in
    record {
      in_use_lem = laid_in_use words p;
      lane_count = header_field words p lane_count_field (omega arith);
      first_link = laid_first_link words p;
      marks_in_use_lem = laid_marks_in_use words p;
      spare = laid_header_zero words p;
      place =
          λ j n rest at.
          record {
            key = laid_key words p j n rest at;
            level = laid_level words p j n rest at;
            link = laid_link words p j n rest at;
            fence = laid_fence words p j n rest at;
          };
      rest_free_lem =
          λ q l.
          padded_past words (laid_header p ++ records) q
          (omega (arith, length-append (laid_header p) records, (header_words p).size, records_length p 1 0 p.nodes));
    }

-- ---- no other words of that length have them

-- a field of a place is one of the first two, a link or a fence
each_field : (P : ℕ → Type 0) → P key_field → P level_field → ((i : ℕ) → i < lanes → P (link_field i))
    → ((s : ℕ) → s ≤ slots_per_node → P (fence_field s)) → (f : ℕ) → f < node_place_words → P f
each_field P key level link fence zero l = key
each_field P key level link fence (suc zero) l = level
each_field P key level link fence (suc (suc f)) l =
    ⊎_elim
    (λ h. subst P (omega arith) (fence (f - lanes) (omega arith)))
    (λ h. subst P (omega arith) (link f h))
    (at_most_or_above lanes f)

-- words are the same that are the same in each field of each place
same_by_fields : (a b : List ℕ) → length a ≡ length b
    → ((i f : ℕ) → f < node_place_words → node_field a i f ≡ node_field b i f) → a ≡ b
same_by_fields a b e h =
    ext_get_or 0 a b e
    (λ q l.
    word_in_place a q ∙ h (q / node_place_words) (q % node_place_words) (omega arith) ∙ sym (word_in_place b q))

module _ (p : Profile) (a b : List ℕ) (u : NodeWords p a) (v : NodeWords p b) where
  same_header : (f : ℕ) → f < node_place_words → node_field a header f ≡ node_field b header f
  same_header =
      each_field (λ f. node_field a header f ≡ node_field b header f) (u.in_use_lem ∙ sym v.in_use_lem) (u.lane_count ∙ sym v.lane_count)
      (λ i l. u.first_link i l ∙ sym (v.first_link i l)) others
    where
      others : (s : ℕ) → s ≤ slots_per_node → node_field a header (fence_field s) ≡ node_field b header (fence_field s)
      others zero l = u.marks_in_use_lem ∙ sym v.marks_in_use_lem
      others (suc s) l = u.spare s (omega arith) ∙ sym (v.spare s (omega arith))

  same_record : (j : ℕ) → j < length p.nodes → (f : ℕ) → f < node_place_words → node_field a (suc j) f ≡ node_field b (suc j) f
  same_record j h =
      let at = drop-cons p.nodes j (node_of 0 0) h in
      let x = u.place j _ _ at in
      let y = v.place j _ _ at in
      each_field (λ f. node_field a (suc j) f ≡ node_field b (suc j) f) (x.key ∙ sym y.key) (x.level ∙ sym y.level)
      (λ i l. x.link i l ∙ sym (y.link i l)) (λ s l. x.fence s l ∙ sym (y.fence s l))

  same_free : (j f : ℕ) → length p.nodes ≤ j → node_field a (suc j) f ≡ node_field b (suc j) f
  unfolding node_field
  same_free j f h = let past = suc j * node_place_words + f in u.rest_free_lem past (omega arith) ∙ sym (v.rest_free_lem past (omega arith))

  same_field : (i f : ℕ) → f < node_place_words → node_field a i f ≡ node_field b i f
  same_field zero f l = same_header f l
  same_field (suc j) f l =
      ⊎_elim (λ h. same_free j f h) (λ h. same_record j h f l) (at_most_or_above (length p.nodes) j)

  -- so there is one list of words of a length that has the fields of a profile
  pub one_node_words : length a ≡ length b → a ≡ b
  one_node_words e = same_by_fields a b e same_field

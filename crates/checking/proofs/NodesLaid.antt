-- The node words by what the tests say of them: with node places, links, fences and the count of marks right they are the words of the profile
-- that they say; and of that profile's words each of these is so.
-- Assumes nothing.
use Prim.Native.Nat.{ℕ, ◌+◌, ◌-◌, ◌*◌, ◌/◌, ◌%◌, ◌≤◌}
use mathlib.Core.Path.{◌≡◌, sym, subst}
use mathlib.Core.List.{List}
use native.Mathlib.Omega.{arith}
use lib.ListN.{length}
use Rattle.rules.specs.Marks.{marks_in_use}
use Rattle.rules.proofs.SoundMemory.{Standing}
use Rattle.store.specs.Sizes.{node_place_words}
use Rattle.store.specs.Places.{node_field, header, marks_in_use_field, in_use}
use Rattle.store.specs.LaidNodes.{laid_nodes}
use Rattle.store.proofs.SaidNodes.{said_nodes_length, said_key, said_level}
use Rattle.store.proofs.LaidNodes.{laid_nodes_length}
use Rattle.store.proofs.NodeWords.{NodeWords, laid_node_words, one_node_words}
use Rattle.store.specs.SaidProfile.{said_by}
use Rattle.checking.proofs.NodePlaces.{NodesStand}
use Rattle.linking.proofs.LinksLaid.{LinksLaid}
use Rattle.checking.proofs.MarkPlaces.{FencesLaid, MarksLaid}

module _ (bands nodes marks : List ℕ) (stand : NodesStand nodes) (linked : LinksLaid nodes) (marked : MarksLaid bands nodes marks) where
  -- each field is that of the profile
  has_node_words : NodeWords (said_by bands nodes) nodes
  has_node_words =
      record {
        in_use_lem = sym (said_nodes_length nodes);
        lane_count = stand.lane_count;
        first_link = linked.first_link;
        marks_in_use_lem = marked.in_use_lem;
        spare = stand.spare;
        place =
            λ j n rest at.
            record {
              key = said_key nodes j at;
              level = said_level nodes j at;
              link = linked.link j n rest at;
              fence = marked.fence j n rest at;
            };
        rest_free_lem = λ q l. stand.rest_free_lem q (omega (arith, said_nodes_length nodes));
      }

  -- so they are its words
  pub nodes_laid : node_place_words ≤ length nodes → length nodes % node_place_words ≡ 0 → nodes ≡ laid_nodes (length nodes) (said_by bands nodes)
  nodes_laid h whole =
      let room : ℕ = length nodes / node_place_words - 1 in
      let words : node_place_words * (room + 1) ≡ length nodes = omega arith in
      let size = laid_nodes_length room (said_by bands nodes) (omega (arith, said_nodes_length nodes, stand.fits)) in
      one_node_words (said_by bands nodes) nodes (laid_nodes (length nodes) (said_by bands nodes)) has_node_words
      (laid_node_words (length nodes) (said_by bands nodes)) (sym (rw words at size))

module _ (bands nodes : List ℕ) (words : ℕ) (laid : nodes ≡ laid_nodes words (said_by bands nodes)) where
  -- the words of the profile have its fields
  node_words_lem : NodeWords (said_by bands nodes) nodes
  node_words_lem = subst (NodeWords (said_by bands nodes)) (sym laid) (laid_node_words words (said_by bands nodes))

  -- the node places of a profile that stands and fits
  pub laid_stand : Standing (said_by bands nodes) → in_use nodes ≤ length nodes / node_place_words - 1 → NodesStand nodes
  laid_stand stands fits =
      record {
        fits = fits;
        lane_count = node_words_lem.lane_count;
        spare = node_words_lem.spare;
        ascend = stands.keys_ascend_lem;
        levels = stands.levels_right_lem;
        rest_free_lem = λ q l. node_words_lem.rest_free_lem q (omega (arith, said_nodes_length nodes));
      }

  -- the count of marks and the fences, whatever the mark words
  pub laid_marks_counted : node_field nodes header marks_in_use_field ≡ marks_in_use (said_by bands nodes)
  laid_marks_counted = node_words_lem.marks_in_use_lem

  pub laid_fences : FencesLaid bands nodes
  laid_fences j n rest at = (node_words_lem.place j n rest at).fence

-- The node readout on words that lay a standing profile, with a place for each of its nodes, is the rules' own.
-- Assumes nothing.
use Prim.Native.Nat.{ℕ, suc, ◌≤◌, ◌-◌, ◌/◌}
use mathlib.Core.Path.{◌≡◌, sym, ◌∙◌}
use mathlib.Core.Bool.{Bool}
use mathlib.Core.List.{List, ◌∷◌}
use native.Mathlib.Omega.{arith}
use lib.ListN.{length, drop}
use borrow.Author.Tests.{ne_eqb}
use Rattle.rules.specs.Connectives.{says_yes}
use Rattle.rules.specs.NodesLanesEdges.{Node, stands_at}
use Rattle.rules.specs.Profile.{Profile}
use Rattle.rules.specs.Readouts.{node_read}
use Rattle.rules.specs.BoxSaysNo.{no_node_read, node_read_refusal, node_read_answer}
use Rattle.rules.proofs.Means.{never}
use Rattle.rules.proofs.NodesLanesEdges.{stands_at_means, level_at_place}
use Rattle.rules.proofs.BoxSaysNo.{node_accepted, same_answered}
use Rattle.rules.proofs.SoundMemory.{Standing}
use Rattle.store.specs.Sizes.{node_place_words, sizes_right}
use Rattle.store.specs.Memory.{Memory, lengths_in}
use Rattle.store.specs.LaidMarks.{slot_marks}
use Rattle.store.proofs.Lays.{Lays}
use Rattle.search.specs.PlaceOf.{place_of}
use Rattle.search.proofs.PlaceAmongSaid.{PlaceFound, nowhere, at_place}
use Rattle.search.proofs.PlaceOnLaid.{place_on_laid}
use Rattle.asking.specs.NodeCall.{node_refusal_in, node_at, node_in}

-- a place is found exactly where a node stands
found_where : {ns : List Node} {k place : ℕ} {stands : Bool} → PlaceFound ns k place stands → says_yes place ≡ stands
found_where (nowhere e s) = rw (e, s)
found_where (at_place j n rest at f e s) = rw (e, s, ne_eqb (suc j) 0 (λ z. omega arith))

module _ (p : Profile) (m : Memory) (l : Lays p m.nodes m.marks) (s : Standing p) where
  node_at_place : (j : ℕ) (n : Node) (rest : List Node) → drop j p.nodes ≡ n ∷ rest → node_at m.nodes m.marks (suc j) ≡ node_read p n.key
  unfolding node_at node_read slot_marks
  node_at_place j n rest at = rw (l.level j n rest at, l.slot j n rest at 0 (omega arith), level_at_place 0 j p.nodes s.keys_ascend_lem n rest at)

  -- where nothing refuses, the same is read
  node_found : (right : Bool) (k : ℕ) → PlaceFound p.nodes k (place_of m.nodes k) (stands_at k p.nodes) → node_read_refusal right p k ≡ 0
      → node_at m.nodes m.marks (place_of m.nodes k) ≡ node_read p k
  node_found right k (nowhere e f) z = never (sym f ∙ (stands_at_means k p.nodes).test ((node_accepted right p k).0 z).1.1)
  node_found right k (at_place j n rest at f e t) z = rw (e, ← f) (node_at_place j n rest at)

  pub node_on_laid : length p.nodes ≤ length m.nodes / node_place_words - 1 → (k : ℕ) → node_in m k ≡ node_read_answer (sizes_right (lengths_in m)) p k
  unfolding node_in node_read_answer node_refusal_in node_read_refusal
  node_on_laid h k =
      let right : Bool = sizes_right (lengths_in m) in
      let found = place_on_laid l k h s.keys_ascend_lem in
      rw (found_where found) (same_answered (node_read_refusal right p k) no_node_read _ _ (node_found right k found))

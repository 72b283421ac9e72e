-- The laws of AskingRefused, RefusedZeros, StabCounts and the ..Exact files, and the likeness, said of whatever answer meets the promise of a call that
-- asks, whatever it was lent and given; and that all slices are as they were.
-- Assumes nothing.
use Prim.{Unit}
use Prim.Native.Nat.{ℕ, ◌≤◌, ◌<◌}
use contract.Lifetimes.{Lfts}
use mathlib.Core.Path.{◌≡◌, sym, ◌∙◌, ap, subst}
use mathlib.Core.Bool.{true}
use mathlib.Core.Option.{some}
use lib.ListN.{length}
use Rattle.rules.specs.HallLine.{highest_key}
use Rattle.rules.specs.Marks.{marks_in_use}
use Rattle.rules.specs.Flags.{set_flags}
use Rattle.rules.specs.Search.{Stab}
use Rattle.rules.specs.Readouts.{BandRead as RuledBandRead, band_read_of, EdgeRead as RuledEdgeRead, NodeRead as RuledNodeRead, RoomRead as RuledRoomRead}
use Rattle.rules.specs.BoxSaysNo.{Answered, saying}
use Rattle.rules.proofs.Lists.{Each}
use Rattle.rules.proofs.OthersRefused.{SizesGive, StabGives}
use Rattle.rules.proofs.Zeros.{StabOfZeros, BandOfZeros, EdgeOfZeros, NodeOfZeros, RoomOfZeros, ZerosIfRefused}
use Rattle.std.specs.Prelude.{Result}
use Rattle.hall.specs.declared.answers.Refusal.{Refusal}
use Rattle.hall.specs.declared.keys.Key.{Key}
use Rattle.hall.specs.declared.reads.StabRead.{StabRead}
use Rattle.hall.specs.declared.reads.BandRead.{BandRead}
use Rattle.hall.specs.declared.reads.EdgeRead.{EdgeRead}
use Rattle.hall.specs.declared.reads.NodeRead.{NodeRead}
use Rattle.hall.specs.declared.reads.RoomRead.{RoomRead}
use Rattle.store.specs.Sizes.{sizes_right}
use Rattle.store.specs.Memory.{Memory, lengths_in}
use Rattle.store.specs.SaidProfile.{said_profile}
use Rattle.store.specs.Sound.{sound}
use Rattle.store.proofs.LentWords.{Lent, also_given, lent_memory, SameWords}
use Rattle.store.proofs.OnlyAsked.{what_was_told, words_left}
use Rattle.asking.specs.Says.{stab_says, band_read_says, edge_read_says, node_read_says, room_read_says}
use Rattle.asking.specs.StabCall.{stab_in}
use Rattle.asking.specs.BandCall.{band_in}
use Rattle.asking.specs.EdgeCall.{edge_in}
use Rattle.asking.specs.NodeCall.{node_in}
use Rattle.asking.specs.RoomCall.{room_read_in}
use Rattle.asking.proofs.AskingRefused.{stab_refused_exactly, BandGivesIn, band_refused_exactly, EdgeGivesIn, edge_refused_exactly, EdgeGivesOf, edge_refused_on_sound, NodeGivesIn, node_refused_exactly, NodeGivesOf, node_refused_on_sound, room_refused_exactly}
use Rattle.asking.proofs.RefusedZeros.{refused_answers_zeros}
use Rattle.asking.proofs.StabCounts.{stab_counts_flags}
use Rattle.asking.proofs.StabExact.{ExactStab, stab_exact}
use Rattle.asking.proofs.BandExact.{band_exact}
use Rattle.asking.proofs.EdgeExact.{ExactEdge, edge_exact}
use Rattle.asking.proofs.NodeExact.{ExactNode, node_exact}
use Rattle.asking.proofs.RoomExact.{room_exact}
use Rattle.asking.proofs.Alike.{stabs_alike, edges_alike, nodes_alike}
use Rattle.asking.proofs.Settled.{stab_told_back, edge_told_back, node_told_back}
use Rattle.asking.proofs.Promises.{StabPromise, BandPromise, EdgePromise, NodePromise, RoomPromise}

-- ---- what is told of a memory

-- by a stab at key k
pub record StabTold (m : Memory) (k : ℕ) (a : Answered Stab) : Type 0 where
  -- 1 exactly for wrong sizes, else 4 exactly for a key above the line, else 0
  pub refused : StabGives (sizes_right (lengths_in m)) k a.refusal
  -- where that is not 0, zeros throughout
  pub zeros : ZerosIfRefused StabOfZeros a
  -- the count is the number of set flags
  pub counted : a.read.count ≡ set_flags a.read.flags
  -- on sound memory at a key on the line: 0, the flags of the live bands that hold the key, how many they are, as many marks met, the paper's looks
  pub exact : sound m ≡ true → k ≤ highest_key → (a.refusal ≡ 0) × ExactStab (said_profile m) k a.read

-- by the readout of a band
pub record BandTold (m : Memory) (number : ℕ) (a : Answered RuledBandRead) : Type 0 where
  -- 1 exactly for wrong sizes, else 3 exactly for a number above 1,023, else 9 exactly where it is not live, else 0
  pub refused : BandGivesIn m number a.refusal
  pub zeros : ZerosIfRefused BandOfZeros a
  -- in memory of right sizes, sound or not, the band of that number as it stands
  pub exact : sizes_right (lengths_in m) ≡ true → Each (λ b. b.number ≡ number → a ≡ saying 0 (band_read_of (some b))) (said_profile m).bands

-- by the readout of the edge out of key k in a lane
pub record EdgeTold (m : Memory) (k lane : ℕ) (a : Answered RuledEdgeRead) : Type 0 where
  -- 1 exactly for wrong sizes, else 4 exactly for a key above the line, else 13 exactly where no place is found for the key or no such lane there, else 0;
  -- on sound memory 13 exactly where no node stands at the key or it has no such lane
  pub refused : EdgeGivesIn m k lane a.refusal
  pub refused_on_sound : sound m ≡ true → EdgeGivesOf (said_profile m) k lane a.refusal
  pub zeros : ZerosIfRefused EdgeOfZeros a
  -- on sound memory, of a node at the key and a lane of its own: where the edge leads, and the flags of the live bands marked on it
  pub exact : sound m ≡ true
      → Each (λ n. n.key ≡ k → lane < n.level → (a.refusal ≡ 0) × ExactEdge (said_profile m) k lane a.read) (said_profile m).nodes

-- by the readout of the node at key k
pub record NodeTold (m : Memory) (k : ℕ) (a : Answered RuledNodeRead) : Type 0 where
  -- 1 exactly for wrong sizes, else 4 exactly for a key above the line, else 13 exactly where no place is found for the key, else 0; on sound memory 13
  -- exactly where no node stands at the key
  pub refused : NodeGivesIn m k a.refusal
  pub refused_on_sound : sound m ≡ true → NodeGivesOf (said_profile m) k a.refusal
  pub zeros : ZerosIfRefused NodeOfZeros a
  -- on sound memory, of a node at the key: its level, and the flags of the live bands marked on it
  pub exact : sound m ≡ true → Each (λ n. n.key ≡ k → (a.refusal ≡ 0) × ExactNode (said_profile m) n a.read) (said_profile m).nodes

-- by the readout of the room used
pub record RoomTold (m : Memory) (a : Answered RuledRoomRead) : Type 0 where
  -- 1 exactly for wrong sizes, else 0
  pub refused : SizesGive (sizes_right (lengths_in m)) a.refusal
  pub zeros : ZerosIfRefused RoomOfZeros a
  -- on sound memory how many nodes there are, and the rule's own count of all marks
  pub exact : sound m ≡ true → a ≡ saying 0 (record { nodes = length (said_profile m).nodes; marks = marks_in_use (said_profile m) })

-- ---- the definitions tell that

module _ (m : Memory) where
  stab_told : (k : ℕ) → StabTold m k (stab_in m k)
  stab_told k =
      record {
        refused = stab_refused_exactly m k;
        zeros = (refused_answers_zeros m).stab k;
        counted = stab_counts_flags m k;
        exact = λ s h. stab_exact m s k h;
      }

  band_told : (number : ℕ) → BandTold m number (band_in m number)
  band_told number =
      record {
        refused = band_refused_exactly m number;
        zeros = (refused_answers_zeros m).band number;
        exact = λ right b i e. subst (λ n. band_in m n ≡ saying 0 (band_read_of (some b))) e (band_exact m right b i);
      }

  edge_told : (k lane : ℕ) → EdgeTold m k lane (edge_in m k lane)
  edge_told k lane =
      record {
        refused = edge_refused_exactly m k lane;
        refused_on_sound = edge_refused_on_sound m k lane;
        zeros = (refused_answers_zeros m).edge k lane;
        exact =
            λ s n i e h. subst (λ j. ((edge_in m j lane).refusal ≡ 0) × ExactEdge (said_profile m) j lane (edge_in m j lane).read) e (edge_exact m s n i lane h);
      }

  node_told : (k : ℕ) → NodeTold m k (node_in m k)
  node_told k =
      record {
        refused = node_refused_exactly m k;
        refused_on_sound = node_refused_on_sound m k;
        zeros = (refused_answers_zeros m).node k;
        exact = λ s n i e. subst (λ j. ((node_in m j).refusal ≡ 0) × ExactNode (said_profile m) n (node_in m j).read) e (node_exact m s n i);
      }

  room_told : RoomTold m (room_read_in m)
  room_told = record { refused = room_refused_exactly m; zeros = (refused_answers_zeros m).room; exact = room_exact m }

-- ---- and so does whatever meets a promise

module _ (κs : Lfts 1) where
  pub any_stab : (given after : Lent (Key × Unit {0})) (r : Result StabRead Refusal) → StabPromise κs given r after
      → StabTold (lent_memory given) (also_given given).0.0 (stab_says r) × SameWords after given
  any_stab given after r met =
      let m = lent_memory given in
      let k = (also_given given).0.0 in
      (subst (StabTold m k) (sym (what_was_told given after met)) (stab_told m k), words_left given after met)

  pub any_band : (given after : Lent (ℕ × Unit {0})) (r : Result BandRead Refusal) → BandPromise κs given r after
      → BandTold (lent_memory given) (also_given given).0 (band_read_says r) × SameWords after given
  any_band given after r met =
      let m = lent_memory given in
      let number = (also_given given).0 in
      (subst (BandTold m number) (sym (what_was_told given after met)) (band_told m number), words_left given after met)

  pub any_edge : (given after : Lent (Key × (ℕ × Unit {0}))) (r : Result EdgeRead Refusal) → EdgePromise κs given r after
      → EdgeTold (lent_memory given) (also_given given).0.0 (also_given given).1.0 (edge_read_says r) × SameWords after given
  any_edge given after r met =
      let m = lent_memory given in
      let k = (also_given given).0.0 in
      let lane = (also_given given).1.0 in
      (subst (EdgeTold m k lane) (sym (what_was_told given after met)) (edge_told m k lane), words_left given after met)

  pub any_node : (given after : Lent (Key × Unit {0})) (r : Result NodeRead Refusal) → NodePromise κs given r after
      → NodeTold (lent_memory given) (also_given given).0.0 (node_read_says r) × SameWords after given
  any_node given after r met =
      let m = lent_memory given in
      let k = (also_given given).0.0 in
      (subst (NodeTold m k) (sym (what_was_told given after met)) (node_told m k), words_left given after met)

  pub any_room : (given after : Lent (Unit {0})) (r : Result RoomRead Refusal) → RoomPromise κs given r after
      → RoomTold (lent_memory given) (room_read_says r) × SameWords after given
  any_room given after r met =
      let m = lent_memory given in
      (subst (RoomTold m) (sym (what_was_told given after met)) (room_told m), words_left given after met)

-- ---- the likeness, of whatever meets a promise

-- two memories of right sizes, sound or not, are alike in header, node and mark words; what else is given is the same
pub record LentAlike {A : Type 0} (given other : Lent A) : Type 0 where
  pub right : sizes_right (lengths_in (lent_memory given)) ≡ true
  pub other_right : sizes_right (lengths_in (lent_memory other)) ≡ true
  pub nodes : (lent_memory given).nodes ≡ (lent_memory other).nodes
  pub marks : (lent_memory given).marks ≡ (lent_memory other).marks
  pub also : also_given given ≡ also_given other

module _ (κs : Lfts 1) where
  pub any_stabs_alike : (given after other after' : Lent (Key × Unit {0})) (a b : Result StabRead Refusal) → StabPromise κs given a after → StabPromise κs other b after'
      → LentAlike given other → a ≡ b
  any_stabs_alike given after other after' a b met met' alike =
      stab_told_back a b (
      ap (λ o. o.told) met
      ∙ stabs_alike (lent_memory given) (lent_memory other) alike.right alike.other_right alike.nodes alike.marks (also_given given).0.0
      ∙ ap (λ x. stab_in (lent_memory other) x.0.0) alike.also
      ∙ sym (ap (λ o. o.told) met')
      )

  pub any_edges_alike : (given after other after' : Lent (Key × (ℕ × Unit {0}))) (a b : Result EdgeRead Refusal) → EdgePromise κs given a after
      → EdgePromise κs other b after' → LentAlike given other → a ≡ b
  any_edges_alike given after other after' a b met met' alike =
      edge_told_back a b (
      ap (λ o. o.told) met
      ∙ edges_alike (lent_memory given) (lent_memory other) alike.right alike.other_right alike.nodes alike.marks (also_given given).0.0 (also_given given).1.0
      ∙ ap (λ x. edge_in (lent_memory other) x.0.0 x.1.0) alike.also
      ∙ sym (ap (λ o. o.told) met')
      )

  pub any_nodes_alike : (given after other after' : Lent (Key × Unit {0})) (a b : Result NodeRead Refusal) → NodePromise κs given a after → NodePromise κs other b after'
      → LentAlike given other → a ≡ b
  any_nodes_alike given after other after' a b met met' alike =
      node_told_back a b (
      ap (λ o. o.told) met
      ∙ nodes_alike (lent_memory given) (lent_memory other) alike.right alike.other_right alike.nodes alike.marks (also_given given).0.0
      ∙ ap (λ x. node_in (lent_memory other) x.0.0) alike.also
      ∙ sym (ap (λ o. o.told) met')
      )

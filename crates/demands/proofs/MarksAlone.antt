-- A box that never stores marks, but works them out from the list of bands at each stab or readout, is shut out: where the list has a band and node and
-- mark words do not, it lives and is not found; where they have it and the list does not, it does not live and is found.
-- Assumes nothing.
use Prim.Native.Nat.{ℕ, ◌≤◌}
use mathlib.Core.Path.{◌≡◌, refl, sym, ap, ◌∙◌}
use mathlib.Core.Bool.{true}
use lib.ListN.{length}
use Rattle.rules.specs.Profile.{Profile}
use Rattle.rules.specs.Flags.{flag_at}
use Rattle.rules.specs.BoxSaysNo.{stab_answer, band_read_answer, edge_read_answer, node_read_answer}
use Rattle.rules.specs.Computes.{computes}
use Rattle.store.specs.Sizes.{lengths_of, sizes_right}
use Rattle.store.specs.Memory.{Memory, lent, lengths_in, room_in}
use Rattle.store.proofs.SaidStands.{sizes_of_sound}
use Rattle.store.proofs.ChangeIn.{LeavesSound}
use Rattle.asking.specs.StabCall.{stab_in}
use Rattle.asking.specs.BandCall.{band_refusal_in, band_in}
use Rattle.asking.specs.EdgeCall.{edge_in}
use Rattle.asking.specs.NodeCall.{node_in}
use Rattle.asking.proofs.Alike.{stabs_alike, edges_alike, nodes_alike}
use Rattle.emptying.specs.EmptyCall.{empty_in}
use Rattle.demands.proofs.FromEmpty.{emptied, stabbed, band_read_lem, edge_read_lem, node_read_lem}
use Rattle.demands.proofs.Witnesses.{zero_in, span_in, zero_says, span_says}

-- the band words of one memory with the node and mark words of another
abbrev pub listed_and_marked : Memory → Memory → Memory
listed_and_marked listed marked = lent listed.bands marked.nodes marked.marks

-- band words that list number 0, and node and mark words of the empty profile
abbrev pub zero_listed : Memory → Memory
zero_listed e = listed_and_marked (zero_in e).after e

-- band words that list none, and node and mark words with its node and mark
abbrev pub zero_marked : Memory → Memory
zero_marked e = listed_and_marked e (zero_in e).after

pub record FoundByMarksAlone (e : Memory) : Type 0 where
  -- listed, it lives; no stab finds it at its key, and no node is read there
  pub listed_lives : (band_in (zero_listed e) 0).refusal ≡ 0
  pub listed_not_found : flag_at (stab_in (zero_listed e) 0).read.flags 0 ≡ 0
  pub listed_no_node : (node_in (zero_listed e) 0).refusal ≡ 13
  -- marked, it does not live; a stab finds it, and it is read on the node
  pub marked_not_live : (band_in (zero_marked e) 0).refusal ≡ 9
  pub marked_found : flag_at (stab_in (zero_marked e) 0).read.flags 0 ≡ 1
  pub marked_on_node_lem : flag_at (node_in (zero_marked e) 0).read.flags 0 ≡ 1

-- the same of number 1 on an edge
pub record EdgeReadByMarksAlone (e : Memory) : Type 0 where
  -- listed, it lives, and no edge is read
  pub listed_lives : (band_in (listed_and_marked (span_in e).after e) 1).refusal ≡ 0
  pub listed_no_edge : (edge_in (listed_and_marked (span_in e).after e) 10 2).refusal ≡ 13
  -- marked, it does not live, and it is read on the edge
  pub marked_not_live : (band_in (listed_and_marked e (span_in e).after) 1).refusal ≡ 9
  pub marked_on_edge_lem : flag_at (edge_in (listed_and_marked e (span_in e).after) 10 2).read.flags 1 ≡ 1

-- the band readout reads lengths and band words alone
bands_alike : (m w : Memory) → sizes_right (lengths_in m) ≡ true → sizes_right (lengths_in w) ≡ true → m.bands ≡ w.bands
    → (number : ℕ) → band_in m number ≡ band_in w number
unfolding band_in band_refusal_in
bands_alike m w right_m right_w bands number = rw (right_m, right_w, bands)

-- of two memories that soundly say profiles, p and q, the band words of the one with the rest of the other: what is read of each
module _ {m listed marked : Memory} {p q : Profile} (lists : LeavesSound m p listed) (marks : LeavesSound m q marked) where
  abbrev mixed : Memory
  mixed = listed_and_marked listed marked

  right_marked : sizes_right (lengths_in marked) ≡ true
  right_marked = sizes_of_sound marked marks.is_sound

  right_mixed : sizes_right (lengths_in mixed) ≡ true
  right_mixed =
      let same = lists.same_lengths ∙ sym marks.same_lengths in
      (λ i. sizes_right (lengths_of (same i).bands (length marked.nodes) (length marked.marks))) ∙ right_marked

  mixed_band : (number : ℕ) → band_in mixed number ≡ band_read_answer true p number
  mixed_band number = bands_alike mixed listed right_mixed (sizes_of_sound listed lists.is_sound) refl number ∙ band_read_lem lists number

  mixed_stab : (k : ℕ) → stab_in mixed k ≡ stab_answer true q k
  mixed_stab k = stabs_alike mixed marked right_mixed right_marked refl refl k ∙ stabbed marks k

  mixed_edge : (k lane : ℕ) → edge_in mixed k lane ≡ edge_read_answer true q k lane
  mixed_edge k lane = edges_alike mixed marked right_mixed right_marked refl refl k lane ∙ edge_read_lem marks k lane

  mixed_node : (k : ℕ) → node_in mixed k ≡ node_read_answer true q k
  mixed_node k = nodes_alike mixed marked right_mixed right_marked refl refl k ∙ node_read_lem marks k

-- in every room
module _ (m : Memory) (right : sizes_right (lengths_in m) ≡ true) where
  pub found_by_marks_alone : FoundByMarksAlone (empty_in m).after
  unfolding computes
  found_by_marks_alone =
      let none = emptied m right in
      let one = zero_says m right in
      record {
        listed_lives = ap (λ a. a.refusal) (mixed_band one none 0);
        listed_not_found = ap (λ a. flag_at a.read.flags 0) (mixed_stab one none 0);
        listed_no_node = ap (λ a. a.refusal) (mixed_node one none 0);
        marked_not_live = ap (λ a. a.refusal) (mixed_band none one 0);
        marked_found = ap (λ a. flag_at a.read.flags 0) (mixed_stab none one 0);
        marked_on_node_lem = ap (λ a. flag_at a.read.flags 0) (mixed_node none one 0);
      }

  -- .. and in every room for two nodes
  pub edge_read_by_marks_alone : 2 ≤ (room_in m).nodes → EdgeReadByMarksAlone (empty_in m).after
  unfolding computes
  edge_read_by_marks_alone nodes =
      let none = emptied m right in
      let one = span_says m right nodes in
      record {
        listed_lives = ap (λ a. a.refusal) (mixed_band one none 1);
        listed_no_edge = ap (λ a. a.refusal) (mixed_edge one none 10 2);
        marked_not_live = ap (λ a. a.refusal) (mixed_band none one 1);
        marked_on_edge_lem = ap (λ a. flag_at a.read.flags 1) (mixed_edge none one 10 2);
      }

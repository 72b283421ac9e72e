-- Boxes that are shut out because something is there that they could not show: most of it in every memory of right sizes that has the room said, whatever
-- it held, made empty and given a band or two. There is such a memory for every room in range.
-- Assumes nothing.
use Prim.Native.Nat.{ℕ, ◌≤◌, ◌<◌}
use mathlib.Core.Path.{◌≡◌, ap, ◌∙◌}
use mathlib.Core.Bool.{true}
use mathlib.Core.Option.{some}
use native.Mathlib.Omega.{arith}
use Rattle.rules.specs.Profile.{empty_profile}
use Rattle.rules.specs.Changes.{inserted}
use Rattle.rules.specs.Flags.{flag_at}
use Rattle.rules.specs.Search.{Stab}
use Rattle.rules.specs.Readouts.{EdgeRead}
use Rattle.rules.specs.Marks.{marks_in_use}
use Rattle.rules.specs.Room.{Room, room_in_range}
use Rattle.rules.specs.BoxSaysNo.{Change, no_flags}
use Rattle.rules.specs.Computes.{computes}
use Rattle.rules.proofs.BoxSaysNo.{fit_refusal_zero}
use Rattle.rules.proofs.SoundMemory.{standing_means, sound_where_fits}
use Rattle.rules.proofs.Theory.StandingKept.{empty_stands}
use Rattle.rules.proofs.Theory.OneBand.{zero_band}
use Rattle.store.specs.Sizes.{sizes_right}
use Rattle.store.specs.Memory.{Memory, lengths_in, room_in}
use Rattle.store.specs.LaidMemory.{laid_memory}
use Rattle.store.proofs.LaidSound.{laid_room, laid_sound}
use Rattle.store.proofs.SaidStands.{sizes_of_sound}
use Rattle.store.proofs.ChangeIn.{LeavesSound}
use Rattle.asking.specs.StabCall.{stab_in}
use Rattle.asking.specs.BandCall.{band_in}
use Rattle.asking.specs.EdgeCall.{edge_in}
use Rattle.asking.specs.NodeCall.{node_in}
use Rattle.asking.specs.RoomCall.{room_read_in}
use Rattle.emptying.specs.EmptyCall.{empty_in}
use Rattle.inserting.specs.InsertCall.{insert_in}
use Rattle.demands.proofs.FromEmpty.{room_right, emptied, insert_answers, with_band_lem, stabbed, band_read_lem, edge_read_lem, node_read_lem, room_read_lem}
use Rattle.demands.proofs.TwoBands.{span_band, one_span, two_spans, first_span_refused, first_span_goes_in, second_span_goes_in, second_span_refused, same_key, two_on_key, same_key_goes_in, same_key_refused}
use Rattle.demands.proofs.NotAlwaysRefused.{some_insert_accepted}

-- ---- the memories spoken of

-- every room in range is that of some memory of right sizes
pub every_room_lent : (room : Room) → room_in_range room ≡ true → (m : Memory) × (sizes_right (lengths_in m) ≡ true) × (room_in m ≡ room)
unfolding marks_in_use
every_room_lent room in_range =
    let fits =
    sound_where_fits room empty_profile in_range ((standing_means empty_profile).test empty_stands)
    ((fit_refusal_zero room empty_profile).1 (omega arith, omega arith)) in
    let m = laid_memory room empty_profile in
    (m, sizes_of_sound m (laid_sound room empty_profile fits), laid_room room empty_profile fits)

-- ---- a stab with one constant answer

-- what comes of the insert of the house band of number 0, [0,0], with levels 1 and 1, into memory e
abbrev pub zero_in : Memory → Change Memory
zero_in e = insert_in e zero_band 1 1

-- what a stab answers then
abbrev pub zero_stab : Memory → ℕ → Stab
zero_stab e k = (stab_in (zero_in e).after k).read

pub record StabsDiffer (e : Memory) : Type 0 where
  -- the insert is accepted, and so is the stab at either key
  pub accepted : (zero_in e).refusal ≡ 0
  pub at_0_accepted : (stab_in (zero_in e).after 0).refusal ≡ 0
  pub at_1_accepted : (stab_in (zero_in e).after 1).refusal ≡ 0
  -- at key 0 number 0 is flagged, and it alone
  pub at_0_flagged : flag_at (zero_stab e 0).flags 0 ≡ 1
  pub at_0_count : (zero_stab e 0).count ≡ 1
  -- at key 1 it is not, and no other is
  pub at_1_not_flagged : flag_at (zero_stab e 1).flags 0 ≡ 0
  pub at_1_no_flags : (zero_stab e 1).flags ≡ no_flags
  pub at_1_count : (zero_stab e 1).count ≡ 0

-- in every room
module _ (m : Memory) (right : sizes_right (lengths_in m) ≡ true) where
  pub zero_says : LeavesSound m (inserted empty_profile zero_band 1 1) (zero_in (empty_in m).after).after
  zero_says = with_band_lem (emptied m right) zero_band 1 1 (some_insert_accepted m right)

  pub stab_not_constant : StabsDiffer (empty_in m).after
  unfolding computes
  stab_not_constant =
      record {
        accepted = some_insert_accepted m right;
        at_0_accepted = ap (λ a. a.refusal) (stabbed zero_says 0);
        at_1_accepted = ap (λ a. a.refusal) (stabbed zero_says 1);
        at_0_flagged = ap (λ a. flag_at a.read.flags 0) (stabbed zero_says 0);
        at_0_count = ap (λ a. a.read.count) (stabbed zero_says 0);
        at_1_not_flagged = ap (λ a. flag_at a.read.flags 0) (stabbed zero_says 1);
        at_1_no_flags = ap (λ a. a.read.flags) (stabbed zero_says 1);
        at_1_count = ap (λ a. a.read.count) (stabbed zero_says 1);
      }

-- ---- invented looks or marks met

-- in the same memory
pub record LooksAndMetDiffer (e : Memory) : Type 0 where
  -- at key 0 one mark is met; no node lies below, so there is one look in each of the eight lanes
  pub at_0_met : (zero_stab e 0).met ≡ 1
  pub at_0_looks : (zero_stab e 0).looks ≡ 8
  -- at key 1 none is met; the node at 0 is stepped onto, which is a look more
  pub at_1_met : (zero_stab e 1).met ≡ 0
  pub at_1_looks : (zero_stab e 1).looks ≡ 9

module _ (m : Memory) (right : sizes_right (lengths_in m) ≡ true) where
  pub looks_and_met_not_constant : LooksAndMetDiffer (empty_in m).after
  unfolding computes
  looks_and_met_not_constant =
      let says = zero_says m right in
      record {
        at_0_met = ap (λ a. a.read.met) (stabbed says 0);
        at_0_looks = ap (λ a. a.read.looks) (stabbed says 0);
        at_1_met = ap (λ a. a.read.met) (stabbed says 1);
        at_1_looks = ap (λ a. a.read.looks) (stabbed says 1);
      }

-- ---- marks all in lane 0

-- what comes of the insert of number 1, the house band (10,20), with levels 3 and 3, into memory e
abbrev pub span_in : Memory → Change Memory
span_in e = insert_in e (span_band 1) 3 3

-- what is read then of the edge from 10 in a lane
abbrev pub span_edge : Memory → ℕ → EdgeRead
span_edge e lane = (edge_in (span_in e).after 10 lane).read

pub record MarkedInLane2Alone (e : Memory) : Type 0 where
  pub accepted : (span_in e).refusal ≡ 0
  -- lanes 0, 1 and 2 each lead from 10 to 20
  pub lane_0_leads : (span_edge e 0).next ≡ some 20
  pub lane_1_leads : (span_edge e 1).next ≡ some 20
  pub lane_2_leads : (span_edge e 2).next ≡ some 20
  -- the band is marked on the edge in lane 2 ..
  pub lane_2_marked : flag_at (span_edge e 2).flags 1 ≡ 1
  -- .. and not on those in lanes 0 and 1
  pub lane_0_bare : flag_at (span_edge e 0).flags 1 ≡ 0
  pub lane_1_bare : flag_at (span_edge e 1).flags 1 ≡ 0

-- in every room for two nodes, without which there is no edge
module _ (m : Memory) (right : sizes_right (lengths_in m) ≡ true) (nodes : 2 ≤ (room_in m).nodes) where
  span_accepted : (span_in (empty_in m).after).refusal ≡ 0
  span_accepted = insert_answers (emptied m right) (span_band 1) 3 3 ∙ first_span_goes_in (room_in m) nodes (room_right m right)

  pub span_says : LeavesSound m one_span (span_in (empty_in m).after).after
  span_says = with_band_lem (emptied m right) (span_band 1) 3 3 span_accepted

  pub marks_not_all_in_lane_0 : MarkedInLane2Alone (empty_in m).after
  unfolding computes
  marks_not_all_in_lane_0 =
      record {
        accepted = span_accepted;
        lane_0_leads = ap (λ a. a.read.next) (edge_read_lem span_says 10 0);
        lane_1_leads = ap (λ a. a.read.next) (edge_read_lem span_says 10 1);
        lane_2_leads = ap (λ a. a.read.next) (edge_read_lem span_says 10 2);
        lane_2_marked = ap (λ a. flag_at a.read.flags 1) (edge_read_lem span_says 10 2);
        lane_0_bare = ap (λ a. flag_at a.read.flags 1) (edge_read_lem span_says 10 0);
        lane_1_bare = ap (λ a. flag_at a.read.flags 1) (edge_read_lem span_says 10 1);
      }

-- .. and in less the insert is refused
pub span_needs_two_nodes : (m : Memory) → sizes_right (lengths_in m) ≡ true → (room_in m).nodes < 2 → (span_in (empty_in m).after).refusal ≡ 11
span_needs_two_nodes m right few = insert_answers (emptied m right) (span_band 1) 3 3 ∙ first_span_refused (room_in m) few

-- ---- marks the first band well and keeps later ones only on a list

-- what comes of the insert of number 2 after it, of the same stretch
abbrev pub two_spans_in : Memory → Change Memory
two_spans_in e = insert_in (span_in e).after (span_band 2) 3 3

pub record BothMarked (e : Memory) : Type 0 where
  pub first_accepted : (span_in e).refusal ≡ 0
  pub second_accepted : (two_spans_in e).refusal ≡ 0
  -- both bands live
  pub first_lives : (band_in (two_spans_in e).after 1).refusal ≡ 0
  pub second_lives : (band_in (two_spans_in e).after 2).refusal ≡ 0
  -- both are marked on the edge from 10 to 20 in lane 2
  pub edge_leads : (edge_in (two_spans_in e).after 10 2).read.next ≡ some 20
  pub first_marked : flag_at (edge_in (two_spans_in e).after 10 2).read.flags 1 ≡ 1
  pub second_marked : flag_at (edge_in (two_spans_in e).after 10 2).read.flags 2 ≡ 1
  -- these are the marks in use
  pub marks_in_use_lem : (room_read_in (two_spans_in e).after).read.marks ≡ 2
  -- and a stab between the ends meets both
  pub both_met : (stab_in (two_spans_in e).after 15).read.met ≡ 2

-- in every room for two nodes and two marks
module _ (m : Memory) (right : sizes_right (lengths_in m) ≡ true) (nodes : 2 ≤ (room_in m).nodes) (marks : 2 ≤ (room_in m).marks) where
  two_accepted : (two_spans_in (empty_in m).after).refusal ≡ 0
  two_accepted = insert_answers (span_says m right nodes) (span_band 2) 3 3 ∙ second_span_goes_in (room_in m) nodes marks

  two_say : LeavesSound m two_spans (two_spans_in (empty_in m).after).after
  two_say = with_band_lem (span_says m right nodes) (span_band 2) 3 3 two_accepted

  pub later_bands_not_only_listed : BothMarked (empty_in m).after
  unfolding computes
  later_bands_not_only_listed =
      record {
        first_accepted = span_accepted m right nodes;
        second_accepted = two_accepted;
        first_lives = ap (λ a. a.refusal) (band_read_lem two_say 1);
        second_lives = ap (λ a. a.refusal) (band_read_lem two_say 2);
        edge_leads = ap (λ a. a.read.next) (edge_read_lem two_say 10 2);
        first_marked = ap (λ a. flag_at a.read.flags 1) (edge_read_lem two_say 10 2);
        second_marked = ap (λ a. flag_at a.read.flags 2) (edge_read_lem two_say 10 2);
        marks_in_use_lem = ap (λ a. a.read.marks) (room_read_lem two_say);
        both_met = ap (λ a. a.read.met) (stabbed two_say 15);
      }

-- .. and with room for fewer marks the second insert is refused
pub later_band_needs_two_marks : (m : Memory) → sizes_right (lengths_in m) ≡ true → 2 ≤ (room_in m).nodes → (room_in m).marks < 2
    → (two_spans_in (empty_in m).after).refusal ≡ 12
later_band_needs_two_marks m right nodes few =
    insert_answers (span_says m right nodes) (span_band 2) 3 3 ∙ second_span_refused (room_in m) nodes few

-- the same on a node, for which one node is enough: number 1 of the same key after number 0
abbrev pub two_on_key_in : Memory → Change Memory
two_on_key_in e = insert_in (zero_in e).after same_key 1 1

pub record BothMarkedOnNode (e : Memory) : Type 0 where
  pub first_accepted : (zero_in e).refusal ≡ 0
  pub second_accepted : (two_on_key_in e).refusal ≡ 0
  -- both bands live
  pub first_lives : (band_in (two_on_key_in e).after 0).refusal ≡ 0
  pub second_lives : (band_in (two_on_key_in e).after 1).refusal ≡ 0
  -- both are marked on the node at 0
  pub first_marked : flag_at (node_in (two_on_key_in e).after 0).read.flags 0 ≡ 1
  pub second_marked : flag_at (node_in (two_on_key_in e).after 0).read.flags 1 ≡ 1
  -- these are the marks in use
  pub marks_in_use_lem : (room_read_in (two_on_key_in e).after).read.marks ≡ 2
  -- and a stab there meets both
  pub both_met : (stab_in (two_on_key_in e).after 0).read.met ≡ 2

-- in every room for two marks
module _ (m : Memory) (right : sizes_right (lengths_in m) ≡ true) where
  pub later_bands_not_only_listed_on_nodes : 2 ≤ (room_in m).marks → BothMarkedOnNode (empty_in m).after
  unfolding computes
  later_bands_not_only_listed_on_nodes marks =
      let accepted = insert_answers (zero_says m right) same_key 1 1 ∙ same_key_goes_in (room_in m) (room_right m right) marks in
      let says : LeavesSound m two_on_key (two_on_key_in (empty_in m).after).after = with_band_lem (zero_says m right) same_key 1 1 accepted in
      record {
        first_accepted = some_insert_accepted m right;
        second_accepted = accepted;
        first_lives = ap (λ a. a.refusal) (band_read_lem says 0);
        second_lives = ap (λ a. a.refusal) (band_read_lem says 1);
        first_marked = ap (λ a. flag_at a.read.flags 0) (node_read_lem says 0);
        second_marked = ap (λ a. flag_at a.read.flags 1) (node_read_lem says 0);
        marks_in_use_lem = ap (λ a. a.read.marks) (room_read_lem says);
        both_met = ap (λ a. a.read.met) (stabbed says 0);
      }

  -- .. and with room for fewer the second insert is refused
  pub later_key_needs_two_marks : (room_in m).marks < 2 → (two_on_key_in (empty_in m).after).refusal ≡ 12
  later_key_needs_two_marks few = insert_answers (zero_says m right) same_key 1 1 ∙ same_key_refused (room_in m) (room_right m right) few

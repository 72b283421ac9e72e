-- One name that opens every rule where something is to be computed.
-- Assumes nothing.
use Rattle.std.specs.Int.Count.{count_trailing_zeros}
use Rattle.rules.specs.Connectives.{◌and◌, ◌or◌}
use Rattle.rules.specs.HallLine.{parts_in_range, key_of, first_key, own_key, past_low, before_high, holds, first_past, holds_whole_key, is_machine, within_scope}
use Rattle.rules.specs.NodesLanesEdges.{is_level, takes_part, stands_at, is_end, is_end_of_some, ends_stand, only_ends_stand, with_node}
use Rattle.rules.specs.Profile.{has_number, has_scope, is_live, band_numbered}
use Rattle.rules.specs.Marks.{inside, contains, covered_in_lane, edge_marked, passes_over, passed_over_in_lane, node_marked, edge_marks_in, marks_of, marks_in_use, marked_on_edge, marked_on_node}
use Rattle.rules.specs.Staircase.{slot_number, link_marked, marked_slots, walk}
use Rattle.rules.specs.Flags.{flags_of, count_of}
use Rattle.rules.specs.Search.{drop_in, node_takes, taken, steps_of, taller_between, stepped_onto, looks, stab_of}
use Rattle.rules.specs.Changes.{with_band, with_ends, inserted, nodes_at_ends, without_where, removed}
use Rattle.rules.specs.Readouts.{band_read, next_in, edge_read, node_read, room_read}
use Rattle.rules.specs.Room.{room_in_range}
use Rattle.rules.specs.BoxSaysNo.{key_fault, band_fault, fault_of, fit_refusal, empty_refusal, insert_refusal, remove_refusal, stab_refusal, band_read_refusal, edge_read_refusal, node_read_refusal, room_read_refusal, stab_answer, band_read_answer, edge_read_answer, node_read_answer, room_read_answer}
use Rattle.rules.specs.SoundMemory.{bands_right, levels_right, standing, fits, sound_in}
use Rattle.rules.specs.BenchCard.{record_fault, card_bad, scan_of}
use Rattle.rules.specs.Wheel.{wheel_level, next_place, turn_refusal, turn_answer}
use Rattle.rules.specs.Reach.{answers_alike, present, present_both, made_or_dropped, reach_of, lies_in, strictly_inside, edge_reached, key_reached, edge_bears, node_bears, loses_in_lane, loses_on_node, keeps_marks, others_keep_marks, keeps_outside_reaches}

unfoldable pub computes : Unit {0}
unfolding ◌and◌ ◌or◌ parts_in_range key_of first_key own_key past_low before_high holds first_past holds_whole_key is_machine within_scope is_level takes_part stands_at is_end is_end_of_some ends_stand only_ends_stand with_node has_number has_scope is_live band_numbered inside contains covered_in_lane edge_marked passes_over passed_over_in_lane node_marked edge_marks_in marks_of marks_in_use marked_on_edge marked_on_node slot_number link_marked marked_slots walk flags_of count_of drop_in node_takes taken steps_of taller_between stepped_onto looks stab_of with_band with_ends inserted nodes_at_ends without_where removed band_read next_in edge_read node_read room_read room_in_range key_fault band_fault fault_of fit_refusal empty_refusal insert_refusal remove_refusal stab_refusal band_read_refusal edge_read_refusal node_read_refusal room_read_refusal stab_answer band_read_answer edge_read_answer node_read_answer room_read_answer bands_right levels_right standing fits sound_in record_fault card_bad scan_of count_trailing_zeros wheel_level next_place turn_refusal turn_answer answers_alike present present_both made_or_dropped reach_of lies_in strictly_inside edge_reached key_reached edge_bears node_bears loses_in_lane loses_on_node keeps_marks others_keep_marks keeps_outside_reaches
computes = tt

-- `asking::edge_readout::edge` meets its contract: what was judged of sizes and key stands; then the place found and its level decide.
-- Assumes nothing.
use Prim.Native.Nat.{ℕ, suc, ◌+◌}
use mathlib.Core.Path.{◌≡◌, sym, ap, ◌∙◌}
use mathlib.Core.List.{List}
use mathlib.Core.Option.{Option}
use native.Mathlib.Omega.{arith}
use Rattle.std.specs.Prelude.{Err}
use Rattle.rules.specs.Flags.{flags_of}
use Rattle.rules.specs.BoxSaysNo.{saying}
use Rattle.store.specs.Places.{node_field, link_field}
use Rattle.store.specs.SaidMarks.{said_marks}
use Rattle.store.proofs.OnlyAsked.{left_as_it_was}
use Rattle.search.specs.Descent.{next_of}
use Rattle.asking.specs.Says.{edge_read_says}
use Rattle.asking.specs.EdgeCall.{key_at, edge_at}
use Rattle.asking.proofs.CallLines.{edge_refused, marks_fit, edge_by_13, edge_by_13_lane, edge_read_lem}
use Rattle.asking.proofs.PassedOn.{passed_on, no_place, this_place}
use Rattle.asking.proofs.LaneTest.{lane_test, lane_below}
use Rattle.asking.proofs.edge_readout.edge.Goals as goal

-- what is read of the link, word by word
words_read : (nodes marks : List ℕ) (place lane link : ℕ) (next : Option ℕ) (flags : List ℕ)
    → link ≡ node_field nodes place (link_field lane) → next ≡ key_at nodes link → flags ≡ flags_of (said_marks nodes marks place (1 + lane))
    → record { next = next; flags = flags } ≡ edge_at nodes marks place lane
unfolding edge_at next_of
words_read nodes marks place lane link next flags l n f = let slot : 1 + lane ≡ suc lane = omega arith in rw (n, f, l, slot)

pub returns-in_err-judge_key : goal.returns-in_err-judge_key
returns-in_err-judge_key c =
    left_as_it_was
    (ap edge_read_says (passed_on _ _ c.from_residual.ensures.1) ∙ edge_refused _ _ _ c.in_err-judge_key.ensures _)

pub returns-in_err-place : goal.returns-in_err-place
returns-in_err-place c =
    let none = no_place _ _ _ c.in_err-place.ensures.value in
    left_as_it_was
    (ap edge_read_says (passed_on _ _ c.from_residual-in_err-place.ensures.1 ∙ ap Err none.0)
    ∙ edge_by_13 _ _ c.in_ok-judge_key.ensures (sym c.place_of.ensures.place ∙ none.1) _)

pub returns-then-not-has_lane : goal.returns-then-not-has_lane
returns-then-not-has_lane c =
    let found = this_place _ _ _ c.in_ok-place.ensures.ok_part c.place_of.ensures.place c.place_of.ensures.node in
    let no_lane = sym (lane_test c.args.lane _ _ c.node_word-level.ensures) ∙ c.if-not-has_lane.true in
    left_as_it_was
    (edge_by_13_lane _ _ c.in_ok-judge_key.ensures _ found.0 found.1 _ no_lane)

pub marked-requires : goal.marked-requires
marked-requires c =
    let below = lane_below c.args.lane c.node_word-level.result c.if-not-has_lane.false in
    (omega arith, marks_fit _ _ _ _ c.in_ok-judge_key.ensures)

pub returns : goal.returns
returns c =
    let found = this_place _ _ _ c.in_ok-place.ensures.ok_part c.place_of.ensures.place c.place_of.ensures.node in
    let has_lane = sym (lane_test c.args.lane _ _ c.node_word-level.ensures) ∙ c.if-not-has_lane.false in
    let flags = ap (λ t. t.flags) c.marked.ensures in
    left_as_it_was
    (ap (saying 0) (words_read c.args.memory.nodes.now c.args.memory.marks.now _ c.args.lane _ _ _ c.node_word.ensures c.key_at.ensures flags)
    ∙ edge_read_lem _ _ c.in_ok-judge_key.ensures _ found.0 found.1 _ has_lane)

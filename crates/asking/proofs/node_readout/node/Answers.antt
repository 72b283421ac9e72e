-- `asking::node_readout::node` meets its contract: what was judged of sizes and key stands; then the place found decides.
-- Assumes nothing.
use mathlib.Core.Path.{sym, ap, ◌∙◌}
use native.Mathlib.Omega.{arith}
use Rattle.std.specs.Prelude.{Err}
use Rattle.rules.specs.BoxSaysNo.{saying}
use Rattle.store.proofs.OnlyAsked.{left_as_it_was}
use Rattle.asking.specs.Says.{node_read_says}
use Rattle.asking.specs.NodeCall.{node_at}
use Rattle.asking.proofs.CallLines.{node_refused, marks_fit, node_by_13, node_read_lem}
use Rattle.asking.proofs.PassedOn.{passed_on, no_place, this_place}
use Rattle.asking.proofs.node_readout.node.Goals as goal

pub returns-in_err-judge_key : goal.returns-in_err-judge_key
returns-in_err-judge_key c =
    left_as_it_was
    (ap node_read_says (passed_on _ _ c.from_residual.ensures.1) ∙ node_refused _ _ _ c.in_err-judge_key.ensures)

pub returns-in_err-place : goal.returns-in_err-place
returns-in_err-place c =
    let none = no_place _ _ _ c.in_err-place.ensures.value in
    left_as_it_was
    (ap node_read_says (passed_on _ _ c.from_residual-in_err-place.ensures.1 ∙ ap Err none.0)
    ∙ node_by_13 _ _ c.in_ok-judge_key.ensures (sym c.place_of.ensures.place ∙ none.1))

pub marked-requires : goal.marked-requires
marked-requires c = (omega arith, marks_fit _ _ _ _ c.in_ok-judge_key.ensures)

pub returns : goal.returns
unfolding node_at
returns c =
    let found = this_place _ _ _ c.in_ok-place.ensures.ok_part c.place_of.ensures.place c.place_of.ensures.node in
    let flags = ap (λ t. t.flags) c.marked.ensures in
    left_as_it_was
    ((λ i. saying 0 (record { level = c.node_word.ensures i; flags = flags i }))
    ∙ node_read_lem _ _ c.in_ok-judge_key.ensures _ found.0 found.1)

-- `emptying::empty` meets its contract.
-- Assumes nothing.
use mathlib.Core.Path.{◌≡◌, sym, ap, ◌∙◌}
use mathlib.Core.Bool.{Bool}
use lib.ListN.{set}
use Rattle.rules.specs.NodesLanesEdges.{lanes}
use Rattle.rules.specs.BoxSaysNo.{leaving}
use Rattle.store.specs.Sizes.{sizes_right}
use Rattle.store.specs.Memory.{Memory, lent, lengths_in}
use Rattle.store.specs.Places.{with_node_field, lane_count_field}
use Rattle.emptying.proofs.EmptyExact.{empty_by_1, emptied}
use Rattle.emptying.proofs.EmptyWords.{empty_memory}
use Rattle.emptying.proofs.empty.Goals as goal

-- the sizes that were tested are those of the memory that was lent
tested : {w m : Memory} {answer : Bool} → w ≡ m → answer ≡ sizes_right (lengths_in w) → sizes_right (lengths_in m) ≡ answer
tested same test = ap (λ m. sizes_right (lengths_in m)) (sym same) ∙ sym test

pub returns-then-not-sizes_right-clause-empties : goal.returns-then-not-sizes_right-clause-empties
returns-then-not-sizes_right-clause-empties c = empty_by_1 _ (tested c.to_ask.ensures c.if-not-sizes_right.ensures)

pub returns-clause-empties : goal.returns-clause-empties
unfolding with_node_field
returns-clause-empties c =
    let right = tested c.to_ask.ensures c.if-not-sizes_right.ensures in
    let bands = c.clear.ensures in
    let nodes = c.put_node_word.ensures ∙ ap (λ words. set words lane_count_field lanes) c.clear-2.ensures in
    let marks = c.clear-3.ensures in
    (λ i. leaving 0 (lent (bands i) (nodes i) (marks i)))
    ∙ ap (leaving 0) (sym (empty_memory _ right))
    ∙ emptied _ right

-- `search::finding::place_of` meets its contract. The loop's invariant: halving on from here comes to the same as halving all places in use.
-- Assumes nothing.
use native.Mathlib.Omega.{arith}
use mathlib.Core.Path.{sym, ◌∙◌}
use borrow.Author.Rules.{rules}
use Rattle.search.proofs.PlaceSteps.{halves_from_all, upper_half, lower_half, side_by_side, place_there, other_key_there, none_not_below}
use Rattle.search.proofs.finding.place_of.Goals as goal

pub loop-low-init : goal.loop-low-init
loop-low-init c = (search rules, search rules, rw c.places_in_use-in_use.ensures (halves_from_all _ _))

pub loop-low-preserved-then-node_word-key : goal.loop-low-preserved-then-node_word-key
loop-low-preserved-then-node_word-key c = (search rules, search rules, upper_half _ _ (search rules) (search rules) c.loop-low.invariant.2)

pub loop-low-preserved : goal.loop-low-preserved
loop-low-preserved c = (search rules, search rules, lower_half _ _ (search rules) (search rules) c.loop-low.invariant.2)

pub returns-then-in_use-high-clause-place : goal.returns-then-in_use-high-clause-place
returns-then-in_use-high-clause-place c =
    let first = side_by_side _ _ (omega arith) c.loop-low.invariant.2 in
    sym (none_not_below _ _ first (omega arith))

pub returns-then-node_word-key-2-clause-place : goal.returns-then-node_word-key-2-clause-place
returns-then-node_word-key-2-clause-place c =
    let first = side_by_side _ _ (omega arith) c.loop-low.invariant.2 in
    sym (place_there _ _ first (omega arith) (sym c.node_word-2.ensures ∙ c.if-node_word-key-2.true))

pub returns-then-node_word-key-2-clause-node : goal.returns-then-node_word-key-2-clause-node
returns-then-node_word-key-2-clause-node c = omega arith

pub returns-else-node_word-key-2-clause-place : goal.returns-else-node_word-key-2-clause-place
returns-else-node_word-key-2-clause-place c =
    let first = side_by_side _ _ (omega arith) c.loop-low.invariant.2 in
    sym (other_key_there _ _ first (omega arith) (λ e. c.if-node_word-key-2.false (c.node_word-2.ensures ∙ e)))

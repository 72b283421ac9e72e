-- `checking::links::links_right` meets its contract. The loop's invariant: the first places ahead of the place are known, and the test of the
-- links up to it is that of all links.
-- Assumes nothing.
use Rattle.std.proofs.Common.{arith, sym, ◌∙◌, refl}
use Rattle.linking.proofs.PlacesAhead.{none_ahead, ahead_before}
use Rattle.checking.proofs.LinkSteps.{all_links, links_stopped, links_onward, links_at_header}
use Rattle.checking.proofs.links.links_right.Goals as goal

pub loop-place-init : goal.loop-place-init
loop-place-init c = (none_ahead _ _ _ c.node_word-in_use.ensures refl, all_links _ _ c.node_word-in_use.ensures)

pub returns-then-not-links_due : goal.returns-then-not-links_due
returns-then-not-links_due c =
    sym (links_stopped _ _ c.loop-place-test.true c.node_word-level.ensures c.loop-place.invariant.0 c.links_due.ensures c.if-not-links_due.true)
    ∙ c.loop-place.invariant.1

pub loop-place-preserved : goal.loop-place-preserved
loop-place-preserved c = (
  ahead_before _ _ _ _ _ c.loop-place-test.true (omega arith) c.node_word-level.ensures c.raise.ensures c.loop-place.invariant.0,
  sym (links_onward _ _ c.loop-place-test.true c.node_word-level.ensures c.loop-place.invariant.0 c.links_due.ensures c.if-not-links_due.false)
      ∙ c.loop-place.invariant.1,
)

pub returns : goal.returns
returns c =
    c.links_due-2.ensures
    ∙ links_at_header _ c.loop-place.place _ (omega arith) c.loop-place.invariant.0
    ∙ c.loop-place.invariant.1

-- `drafting::keeping::keep_noted` meets its contract. The loop's invariant: the nodes drafted so far and those noted from here on are all that are
-- noted.
-- Assumes nothing.
use mathlib.Core.Path.{◌∙◌}
use native.Mathlib.Omega.{arith}
use Rattle.drafting.proofs.KeepSteps.{keeping_begins, fewer_drafted, place_passed, place_kept, keeping_ends}
use Rattle.drafting.proofs.keeping.keep_noted.Goals as goal
use Rattle.drafting.proofs.keeping.keep_noted.Goals.{then-noted, else-noted}

pub loop-place-init : goal.loop-place-init
loop-place-init c = keeping_begins _ _ c.requires.1

pub add_node-requires : goal.add_node-requires
add_node-requires c = omega (arith, fewer_drafted _ _ c.loop-place.invariant)

pub loop-place-preserved : goal.loop-place-preserved
loop-place-preserved c =
    let so_far = c.loop-place.invariant in
    elim c.if-noted.branch [
      | then-noted w ↦
          place_kept _ _ so_far (omega arith) (omega arith) w.if-noted.true w.node_at.ensures (w.draft-is ∙ w.add_node.ensures)
      | else-noted w ↦ place_passed _ _ so_far (omega arith) w.if-noted.false w.draft-is
    ]

pub returns-after-noted : goal.returns-after-noted
returns-after-noted c =
    let so_far = c.loop-place.invariant in
    keeping_ends _ _
    (elim c.if-noted.branch [
      | then-noted w ↦
          place_kept _ _ so_far (omega arith) (omega arith) w.if-noted.true w.node_at.ensures (w.draft-is ∙ w.add_node.ensures)
      | else-noted w ↦ place_passed _ _ so_far (omega arith) w.if-noted.false w.draft-is
    ])
    (omega arith)

pub returns : goal.returns
returns c = keeping_ends _ _ c.loop-place.invariant (omega arith)

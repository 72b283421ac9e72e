-- `checking::mark_places::marks_right` meets its contract: each of its tests decides one part of the test of fences and marks.
-- Assumes nothing.
use Prim.Native.Nat.{ℕ, ◌+◌, ◌*◌}
use mathlib.Core.Path.{refl, sym}
use native.Mathlib.Omega.{arith}
use lib.ListN.{replicate}
use Rattle.rules.specs.Room.{most_nodes}
use Rattle.rules.specs.Staircase.{slots_per_node}
use Rattle.marking.proofs.Counted.{zeros_have_room}
use Rattle.checking.proofs.MarkSteps.{in_use_wrong, counts_fit, fences_wrong, marks_left}
use Rattle.checking.proofs.mark_places.marks_right.Goals as goal

-- a cursor for each slot, and one for the end
abbrev cursor_count : ℕ
cursor_count = most_nodes * slots_per_node + 1

pub count-sum-requires : goal.count-sum-requires
count-sum-requires c = zeros_have_room (replicate cursor_count 0) refl

pub returns-then-not-marks_in_use_right : goal.returns-then-not-marks_in_use_right
returns-then-not-marks_in_use_right c =
    sym (in_use_wrong c.args.profile.bands.now c.args.profile.nodes.now c.args.marks.now cursor_count c.count-sum.ensures c.marks_in_use_right.ensures c.if-not-marks_in_use_right.true)

pub to_starts-requires : goal.to_starts-requires
to_starts-requires c =
    let sum = counts_fit _ _ c.args.marks.now cursor_count c.count-sum.ensures c.marks_in_use_right.ensures c.if-not-marks_in_use_right.false in
    omega arith

pub returns-then-not-fences_at : goal.returns-then-not-fences_at
returns-then-not-fences_at c =
    sym (fences_wrong _ _ _ cursor_count c.count-sum.ensures c.marks_in_use_right.ensures c.if-not-marks_in_use_right.false (omega arith)
    c.to_starts.ensures c.fences_at.ensures c.if-not-fences_at.true)

pub returns : goal.returns
returns c =
    marks_left _ _ _ cursor_count c.count-sum.ensures c.marks_in_use_right.ensures c.if-not-marks_in_use_right.false (omega arith)
    c.to_starts.ensures c.fences_at.ensures c.if-not-fences_at.false c.requires c.marks_as_laid.ensures

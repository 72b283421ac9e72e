-- `search::taking::Taken::take` meets its contract. The loop's invariant: taking the rest from here gives the same as taking all from the start, and each
-- mark so far was counted.
-- Assumes nothing.
use native.Mathlib.Omega.{arith}
use mathlib.Core.Path.{sym, ap, ◌∙◌}
use Rattle.store.specs.SaidMarks.{between}
use Rattle.store.proofs.Between.{between_in_reach}
use Rattle.search.specs.Found.{with_taken}
use Rattle.search.proofs.TakenMarks.{all_taken}
use Rattle.search.proofs.taking.Taken.take.Goals as goal

pub returns : goal.returns
unfolding between
returns c =
    sym (all_taken c.loop-number.self c.loop-number.number-index _ (omega arith))
    ∙ c.loop-number.invariant.1
    ∙ ap (with_taken c.args.self.now) (between_in_reach c.args.from c.args.to _ _ c.args.marks.now c.min-end.ensures c.min-start.ensures)

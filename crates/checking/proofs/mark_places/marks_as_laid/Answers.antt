-- `checking::mark_places::marks_as_laid` meets its contract.
-- Assumes nothing.
use Rattle.std.proofs.Common.{◌∙◌}
use Rattle.checking.proofs.MarkSteps.{against_draft, same_each}
use Rattle.checking.proofs.mark_places.marks_as_laid.Goals as goal

pub returns : goal.returns
returns c =
    against_draft _ _ c.args.marks.now _ _ c.lay.ensures (c.eq.ensures ∙ same_each _ _)

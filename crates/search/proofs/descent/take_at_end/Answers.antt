-- `search::descent::take_at_end` meets its contract: its test of the next node is the rule's.
-- Assumes nothing.
use mathlib.Core.Path.{sym, ◌∙◌}
use borrow.Author.Rules.{rules}
use Rattle.search.specs.Descent.{taken_at_end}
use Rattle.search.proofs.TakenMarks.{taken_where, untaken_where}
use Rattle.search.proofs.NextNode.{tests_at, none_at}
use Rattle.search.proofs.descent.take_at_end.Goals as goal

pub returns-in-Some : goal.returns-in-Some
unfolding taken_at_end
returns-in-Some c =
    let n = c.in-Some.ensures.some in
    taken_where _ _ (tests_at n _ ∙ sym c.if-eq.ensures) (rw n.place at c.take_slot.ensures)

pub returns-else-eq : goal.returns-else-eq
unfolding taken_at_end
returns-else-eq c = untaken_where _ _ (tests_at c.in-Some.ensures.some _ ∙ sym c.if-eq.ensures)

pub returns : goal.returns
unfolding taken_at_end
returns c = untaken_where _ _ (none_at _ _ (search rules))

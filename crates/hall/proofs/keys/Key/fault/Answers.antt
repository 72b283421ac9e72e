-- `hall::Key::fault` meets its contract: the test that led to a `return` says whether the key is above the highest.
-- Assumes nothing.
use mathlib.Core.Path.{sym, ◌∙◌}
use Rattle.rules.specs.HallLine.{highest_key}
use Rattle.rules.specs.BoxSaysNo.{key_fault}
use Rattle.hall.proofs.KeyOrder.{less}
use Rattle.hall.proofs.keys.Key.fault.Goals as goal

pub returns-then-lt : goal.returns-then-lt
unfolding key_fault
returns-then-lt c = rw (sym (less highest_key c.args.self.0) ∙ sym c.lt.ensures ∙ c.if-lt.true)

pub returns-else-lt : goal.returns-else-lt
unfolding key_fault
returns-else-lt c = rw (sym (less highest_key c.args.self.0) ∙ sym c.lt.ensures ∙ c.if-lt.false)

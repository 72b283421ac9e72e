-- `checking::ends::ends_match` meets its contract.
-- Assumes nothing.
use Rattle.std.proofs.Common.{arith, ◌+◌}
use Rattle.rules.specs.Room.{most_nodes}
use Rattle.checking.proofs.EndSteps.{matched_by_notes}
use Rattle.checking.proofs.ends.ends_match.Goals as goal

pub returns-then-placed : goal.returns-then-placed
returns-then-placed c =
    rw c.if-placed.true at (matched_by_notes _ _ (most_nodes + 1) (omega arith) c.node_word-in_use.ensures c.note_ends-placed.ensures c.all_noted.ensures)

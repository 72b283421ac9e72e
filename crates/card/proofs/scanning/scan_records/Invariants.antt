-- `card::scanning::scan_records` meets its contract: the loop's invariant is that the pass so far leads where the pass over all records does.
-- Assumes nothing.
use Rattle.std.proofs.Common.{map}
use Rattle.std.specs.Prelude.{Ok}
use Rattle.card.specs.Says.{pass_says}
use Rattle.card.proofs.PassSoFar.{Leads}
use Rattle.card.proofs.scanning.scan_records.Given as goal

abbrev pub invariant-loop-index : goal.invariant-loop-index
invariant-loop-index g l = Leads (map g.R.Record.says l.records) l.key.0 (pass_says (Ok l.pass)) l.index

-- What a pass and the card's answer say: the number of the paper, the place, flags and count; beside what is wrong no flags, and 0 for the count.
-- Assumes nothing.
use Rattle.std.specs.Prelude.{Result, Ok, Err}
use Rattle.rules.specs.BoxSaysNo.{no_flags}
use Rattle.rules.specs.BenchCard.{Scan as RuledScan}
use Rattle.hall.specs.Says.{refusal_says}
use Rattle.card.specs.Pass.{Pass as RuledPass, bare}
use Rattle.card.specs.declared.pass.Pass.{Pass}
use Rattle.card.specs.declared.pass.Held.{Held}
use Rattle.card.specs.declared.pass.Wrong.{Wrong}

abbrev pub pass_says : Result Pass Wrong → RuledPass
pass_says (Ok p) = record { refusal = 0; place = 0; seen = p.seen; flags = p.flags }
pass_says (Err w) = bare (refusal_says w.refusal) w.place

abbrev pub scan_says : Result Held Wrong → RuledScan
scan_says (Ok h) = record { refusal = 0; place = 0; flags = h.flags; count = h.count }
scan_says (Err w) = record { refusal = refusal_says w.refusal; place = w.place; flags = no_flags; count = 0 }

-- `search::taking::marked` meets its contract: what is taken after nothing is all that is taken.
-- Assumes nothing.
use native.Mathlib.Omega.{arith}
use mathlib.Core.Path.{ap, ◌∙◌}
use mathlib.Core.List.{[]}
use Rattle.search.specs.declared.taking.Taken.{Taken}
use Rattle.search.proofs.TakenMarks.{taken_after}
use Rattle.search.proofs.taking.marked.Goals as goal

pub take_slot-requires : goal.take_slot-requires
take_slot-requires c =
    let none = ap (λ (t : Taken). t.met) c.nothing-taken.ensures in (omega arith, omega arith)

pub returns : goal.returns
returns c = c.take_slot.ensures ∙ rw c.nothing-taken.ensures (taken_after [] _)

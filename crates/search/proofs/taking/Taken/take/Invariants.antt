-- `search::taking::Taken::take` meets its contract. The loop's invariant: taking the rest from here gives the same as taking all from the start, and each
-- mark so far was counted.
-- Assumes nothing.
use Prim.Native.Nat.{◌+◌}
use mathlib.Core.Path.{◌≡◌}
use lib.ListN.{drop}
use Rattle.search.specs.Found.{with_taken}
use Rattle.search.proofs.taking.Taken.take.Given as goal

abbrev pub invariant-loop-number : goal.invariant-loop-number
invariant-loop-number l =
    (l.self.met ≡ l.initial.self.met + l.number-index)
    × (with_taken l.self (drop l.number-index l.number-items) ≡ with_taken l.initial.self l.number-items)

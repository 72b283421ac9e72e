-- The promise of the check, under a name that other crates know: what its `ensures` says of what it was lent, of its answer and of what stands after it.
-- Assumes nothing.
use Prim.{Unit}
use contract.Lifetimes.{Lfts}
use mathlib.Core.Bool.{Bool}
use Rattle.store.proofs.LentWords.{Lent}
use Rattle.checking.proofs.whole_profile.check.Reads.{Post as ensured}

-- it is given the three slices and nothing else
abbrev pub CheckPromise : Lfts 1 → Lent (Unit {0}) → Bool → Lent (Unit {0}) → Type 0
CheckPromise κs given answer after = ensured κs given answer after

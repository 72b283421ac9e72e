-- No second outcome meets the promise of an insert: of two that meet what its `ensures` says, whatever it was lent and given, the answers are equal and
-- all three slices, which are the very ones that were lent. Stated of the promise itself: one that said less would not settle the outcome.
-- Assumes nothing.
use Prim.{Unit}
use contract.Lifetimes.{Lfts}
use mathlib.Core.Path.{◌≡◌}
use Rattle.std.specs.Prelude.{Result}
use Rattle.hall.specs.declared.answers.Refusal.{Refusal}
use Rattle.hall.specs.declared.entries.Entry.{Entry}
use Rattle.store.specs.LentMemory.{StillLent}
use Rattle.store.proofs.LentWords.{LentToChange, SameWordsLeft}
use Rattle.store.proofs.ToldBack.{change_told_back}
use Rattle.inserting.proofs.insert.Reads.{Post as promise}

pub insert_settled : (κs : Lfts 2) (given x y : LentToChange (Entry × Unit {0})) (a b : Result Unit Refusal) → promise κs given a x → promise κs given b y
    → (a ≡ b) × SameWordsLeft x y × StillLent given.0.now x.0.now × StillLent given.0.now y.0.now
insert_settled κs given x y a b p q = let same = change_told_back a b _ _ p.0 q.0 in (same.0, same.1, p.1, q.1)

-- No second outcome meets the promise of the check, whatever memory it was lent: of two that meet what its `ensures` says, the answers are equal and all
-- three slices, which are those that it was lent. Stated of the promise itself: one that said less would not settle the outcome.
-- Assumes nothing.
use Prim.{Unit}
use contract.Lifetimes.{Lfts}
use mathlib.Core.Path.{◌≡◌}
use mathlib.Core.Bool.{Bool}
use Rattle.store.proofs.LentWords.{Lent, SameWords}
use Rattle.store.proofs.OnlyAsked.{asked_settled}
use Rattle.checking.proofs.Promise.{CheckPromise}

pub check_settled : (κs : Lfts 1) (given x y : Lent (Unit {0})) (a b : Bool) → CheckPromise κs given a x → CheckPromise κs given b y
    → (a ≡ b) × SameWords x y × SameWords x given
check_settled κs given x y a b p q = asked_settled given x y p q

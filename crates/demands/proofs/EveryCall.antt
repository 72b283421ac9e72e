-- Every call by its own definition asks, and leaves memory as it was, or is a change to a profile, owing what changes owe. So what is so of every such
-- change, and of memory left as it was, is so of every call.
-- Assumes nothing.
use Prim.Native.Nat.{ℕ}
use mathlib.Core.Path.{◌≡◌, sym, subst}
use mathlib.Core.Logic.{⊎_elim}
use Rattle.rules.specs.Profile.{Profile}
use Rattle.rules.specs.BoxSaysNo.{refusal_by, Change}
use Rattle.rules.specs.Calls.{Call}
use Rattle.rules.specs.RuledCalls.{after_accepted}
use Rattle.store.specs.Memory.{Memory}
use Rattle.store.specs.SaidProfile.{said_profile}
use Rattle.store.specs.ChangeIn.{change_in}
use Rattle.store.proofs.ChangeIn.{Fitting}
use Rattle.demands.specs.Calls.{call_in, refusal_of, after_call}
use Rattle.demands.specs.Lines.{lines_of}
use Rattle.demands.proofs.AsksOrChanges.{asks_or_changes}

-- Q is what is so of the number that a call answers and the memory that it leaves
pub every_call : (m : Memory) (Q : ℕ → Memory → Type 0) → ((n : ℕ) → Q n m)
    → ((refusal : ℕ) (after : Profile) → Fitting m refusal after → Q refusal (change_in m refusal after).after)
    → (c : Call) → Q (refusal_of m c) (after_call m c)
unfolding change_in
every_call m Q same change c =
    ⊎_elim
    (λ a. so a.comes_to (same (refusal_by (lines_of m c))))
    (λ a. so a.comes_to (change (refusal_by (lines_of m c)) (after_accepted (said_profile m) c) a.fitting))
    (asks_or_changes m c)
  where
    so : {o : Change Memory} → call_in m c ≡ o → Q o.refusal o.after → Q (refusal_of m c) (after_call m c)
    so e = subst (λ (o : Change Memory). Q o.refusal o.after) (sym e)

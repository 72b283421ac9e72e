-- `asking::stabbing::stab` meets its contract: what was judged of sizes and key stands, and else it is what the search finds.
-- Assumes nothing.
use Prim.Native.Nat.{ℕ}
use mathlib.Core.Path.{◌≡◌, ap, ◌∙◌}
use lib.Count.{ones}
use Rattle.rules.specs.Lists.{sum_of}
use Rattle.rules.specs.BoxSaysNo.{saying}
use Rattle.rules.proofs.Flags.{ones_of_flags}
use Rattle.store.proofs.OnlyAsked.{left_as_it_was}
use Rattle.search.specs.Descent.{Descent}
use Rattle.search.specs.Found.{found_of}
use Rattle.search.specs.declared.descent.Found.{Found}
use Rattle.asking.specs.Says.{stab_says}
use Rattle.asking.specs.StabCall.{stab_found}
use Rattle.asking.proofs.CallLines.{stab_refused, marks_fit, stabbed}
use Rattle.asking.proofs.PassedOn.{passed_on}
use Rattle.asking.proofs.stabbing.stab.Goals as goal

-- what the search found, with the flags set counted
found_counted : (found : Found) (d : Descent) (count : ℕ) → found ≡ found_of d → count ≡ sum_of ones found.taken.flags
    → record { flags = found.taken.flags; count = count; met = found.taken.met; looks = found.looks } ≡ stab_found d
found_counted found d count same sum =
    let counted = sum ∙ ap (λ f. sum_of ones f.taken.flags) same ∙ ones_of_flags d.taken in
    λ i. record { flags = (same i).taken.flags; count = counted i; met = (same i).taken.met; looks = (same i).looks }

pub returns-in_err-judge_key : goal.returns-in_err-judge_key
returns-in_err-judge_key c =
    left_as_it_was
    (ap stab_says (passed_on _ _ c.from_residual.ensures.1) ∙ stab_refused _ _ _ c.in_err-judge_key.ensures)

pub search-found-requires : goal.search-found-requires
search-found-requires c = marks_fit _ _ _ _ c.in_ok-judge_key.ensures

pub returns : goal.returns
returns c =
    left_as_it_was
    (ap (saying 0) (found_counted _ _ _ c.search-found.ensures c.count.ensures.sum) ∙ stabbed _ _ c.in_ok-judge_key.ensures)

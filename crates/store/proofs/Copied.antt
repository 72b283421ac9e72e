-- Words copied over others: as many as both have.
-- Assumes nothing.
use Prim.Native.Nat.{ℕ, ◌≤◌, min}
use mathlib.Core.Path.{◌≡◌}
use mathlib.Core.Logic.{⊎_elim}
use mathlib.Core.List.{List, [], ◌++◌, append-nil}
use native.Mathlib.Omega.{arith}
use lib.ListN.{length, take, drop, drop_of_length-le}
use lib.Seq.{take_all}
use Rattle.rules.proofs.Means.{at_most_or_above}
use Rattle.store.specs.Words.{copied}

-- as many as both have are copied, and the others stay
pub copied_in_common : (from to : List ℕ) (common : ℕ) → common ≡ min (length from) (length to) → take common from ++ drop common to ≡ copied from to
unfolding copied
copied_in_common from to common e =
    ⊎_elim
    (λ (h : length from ≤ length to).
    let n : common ≡ length from = omega arith in
    rw (n, take_all (length from) from (omega arith), take_all (length to) from (omega arith)))
    (λ h.
    let n : common ≡ length to = omega arith in
    let none : drop (length to) to ≡ [] = drop_of_length-le to {i = length to} (omega arith) in
    let past : drop (length from) to ≡ [] = drop_of_length-le to {i = length from} (omega arith) in
    rw (n, none, past))
    (at_most_or_above (length from) (length to))

-- into words that are no more than there are, the first of them
pub copied_first : (from to : List ℕ) → length to ≤ length from → copied from to ≡ take (length to) from
unfolding copied
copied_first from to h = rw (drop_of_length-le to h, append-nil)

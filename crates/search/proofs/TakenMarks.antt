-- Taking marks: one by one, after others, and where a test says so.
-- Assumes nothing.
use Prim.Native.Nat.{ℕ, suc, ◌+◌, ◌≤◌, ◌<◌}
use native.Mathlib.Nat.{add-zero}
use native.Mathlib.Omega.{arith}
use native.Mathlib.Numerals.{add-one}
use mathlib.Core.Path.{◌≡◌}
use mathlib.Core.Bool.{Bool, true, false}
use mathlib.Core.List.{List, ◌∷◌, ◌++◌}
use lib.ListN.{length, get_or, drop, length-append, drop_of_length-le}
use lib.Seq.{drop-cons}
use Rattle.rules.specs.Lists.{only_if}
use Rattle.flags.specs.FlagWords.{with_flag}
use Rattle.flags.proofs.FlagWords.{flags_added}
use Rattle.search.specs.declared.taking.Taken.{Taken}
use Rattle.search.specs.Found.{with_taken, taken_of}

-- one mark taken
abbrev with_mark : Taken → ℕ → Taken
with_mark t n = record { flags = with_flag t.flags n; met = t.met + 1 }

module _ (t : Taken) where
  -- one mark, and then those after it
  pub next_taken : (i : ℕ) (marks : List ℕ) → i < length marks
      → with_taken (with_mark t (get_or marks i 0)) (drop (i + 1) marks) ≡ with_taken t (drop i marks)
  next_taken i marks h =
      let rest = drop (suc i) marks in
      let met : t.met + 1 + length rest ≡ t.met + length (get_or marks i 0 ∷ rest) = omega arith in
      rw (add-one i, drop-cons marks i 0 h, met)

  -- no mark is left
  pub all_taken : (i : ℕ) (marks : List ℕ) → length marks ≤ i → with_taken t (drop i marks) ≡ t
  all_taken i marks h = rw (drop_of_length-le marks h, add-zero)

  -- the rule takes where its test passes
  pub taken_where : {u : Taken} {b : Bool} (ns : List ℕ) → b ≡ true → u ≡ with_taken t ns → u ≡ with_taken t (only_if b ns)
  taken_where ns e f = rw e f

  pub untaken_where : {b : Bool} (ns : List ℕ) → b ≡ false → t ≡ with_taken t (only_if b ns)
  untaken_where ns e = rw (e, add-zero)

-- marks taken after others are all taken
pub taken_after : (xs ns : List ℕ) → with_taken (taken_of xs) ns ≡ taken_of (xs ++ ns)
taken_after xs ns = rw (flags_added xs ns, ← length-append xs ns)

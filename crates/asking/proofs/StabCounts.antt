-- "The count is the number of set flags", of every stab on any memory, sound or not, refused or not: how many of the 1,024 flags are set, and that
-- is how many ones the sixteen words have.
-- Assumes nothing.
use Prim.Native.Nat.{ℕ, zero, suc}
use mathlib.Core.Path.{◌≡◌, refl, sym, ◌∙◌, ap}
use mathlib.Core.List.{List, []}
use native.Mathlib.Omega.{arith}
use borrow.Author.Tests.{ne_eqb}
use lib.Count.{ones}
use Rattle.rules.specs.Lists.{sum_of}
use Rattle.rules.specs.Flags.{flags_of, count_of, set_flags}
use Rattle.rules.specs.BoxSaysNo.{answered, no_stab, stab_refusal}
use Rattle.rules.proofs.Flags.{set_flags_counted, ones_of_flags, flags_of_none, count_of_nothing}
use Rattle.store.specs.Sizes.{sizes_right}
use Rattle.store.specs.Memory.{Memory, lengths_in}
use Rattle.search.specs.Descent.{Descent, search_of}
use Rattle.asking.specs.StabCall.{stab_found, stab_in}

-- flags and count of a stab, refused or not, are those of one list of numbers: what the search took, or none
module _ (d : Descent) where
  of_one_list : (refusal : ℕ)
      → (ns : List ℕ) × ((answered refusal no_stab (stab_found d)).read.flags ≡ flags_of ns)
      × ((answered refusal no_stab (stab_found d)).read.count ≡ count_of ns)
  of_one_list zero = (d.taken, refl, refl)
  of_one_list (suc r) = rw (ne_eqb (suc r) 0 (λ z. omega arith)) ([], sym flags_of_none, sym count_of_nothing)

module _ (m : Memory) (k : ℕ) where
  taken_numbers : (ns : List ℕ) × ((stab_in m k).read.flags ≡ flags_of ns) × ((stab_in m k).read.count ≡ count_of ns)
  unfolding stab_in
  taken_numbers = of_one_list (search_of m.nodes m.marks k) (stab_refusal (sizes_right (lengths_in m)) k)

  pub stab_counts_flags : (stab_in m k).read.count ≡ set_flags (stab_in m k).read.flags
  stab_counts_flags = let t = taken_numbers in t.2 ∙ set_flags_counted t.0 ∙ ap set_flags (sym t.1)

  -- .. the ones of the sixteen words, summed
  pub stab_counts_ones : (stab_in m k).read.count ≡ sum_of ones (stab_in m k).read.flags
  stab_counts_ones = let t = taken_numbers in t.2 ∙ sym (ones_of_flags t.0) ∙ ap (sum_of ones) (sym t.1)

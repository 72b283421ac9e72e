-- When the box says no: a call answers n exactly when a line of that number applies and none before it in the call's list does, and 0 exactly when
-- none applies; its lines have the table's numbers, and it answers no other. Where a call's numbers ascend, as in the paper's lists
-- (`papers_numbers_ascend` in the rules), that is "the lowest number that applies". (In plain words: Refused in emptying, inserting and removing,
-- AskingRefused in asking.)
-- Assumes nothing.
use Prim.Native.Nat.{ℕ}
use mathlib.Core.Path.{◌≡◌, sym, ap, subst}
use mathlib.Core.Bool.{true}
use mathlib.Core.Logic.{◌↔◌, ⊎_elim}
use mathlib.Core.List.{◌∷◌, map}
use Rattle.rules.specs.Lists.{ascend_from}
use Rattle.rules.specs.HallLine.{Band}
use Rattle.rules.specs.BoxSaysNo.{refusal_by, Change}
use Rattle.rules.specs.Calls.{Call, numbers_of}
use Rattle.rules.proofs.Lists.{In, Each}
use Rattle.rules.proofs.FirstLine.{GivenExactly, LowestExactly}
use Rattle.rules.proofs.RuledCalls.{call_lines_numbered, call_no_other_number, call_refused_exactly, call_refused_by_lowest, papers_calls, papers_numbers_ascend}
use Rattle.store.specs.Memory.{Memory}
use Rattle.store.specs.ChangeIn.{change_in}
use Rattle.demands.specs.Calls.{refusal_of}
use Rattle.demands.specs.Lines.{known_in, lines_of}
use Rattle.demands.proofs.AsksOrChanges.{asks_or_changes}

module _ (m : Memory) (c : Call) where
  -- a call answers what its lines give
  pub refused_by_lines : refusal_of m c ≡ refusal_by (lines_of m c)
  unfolding change_in
  refused_by_lines =
      ⊎_elim
      (λ a. ap (λ (o : Change Memory). o.refusal) a.comes_to)
      (λ a. ap (λ (o : Change Memory). o.refusal) a.comes_to)
      (asks_or_changes m c)

  -- the first that applies
  pub refused_exactly : (n : ℕ) → (refusal_of m c ≡ n) ↔ GivenExactly n (lines_of m c)
  refused_exactly n = rw refused_by_lines (call_refused_exactly (known_in m) c n)

  -- .. and where numbers ascend, the lowest number that applies
  pub refused_by_lowest : ascend_from 1 (numbers_of c) ≡ true → (n : ℕ) → (refusal_of m c ≡ n) ↔ LowestExactly n (lines_of m c)
  refused_by_lowest ascend n = rw refused_by_lines (call_refused_by_lowest (known_in m) c ascend n)

  -- the lines of each call, by their numbers: 1 to 8, 11 and 12 on an insert, and so on
  pub lines_numbered : map (λ l. l.refusal) (lines_of m c) ≡ numbers_of c
  lines_numbered = call_lines_numbered (known_in m) c

  -- it answers 0 or a number of its own lines
  pub no_other_number : In (refusal_of m c) (0 ∷ numbers_of c)
  no_other_number = subst (λ (n : ℕ). In n (0 ∷ numbers_of c)) (sym refused_by_lines) (call_no_other_number (known_in m) c)

-- so of the paper's calls, with any arguments, the lowest number that applies is given
pub papers_refused_by_lowest : (m : Memory) (b : Band) (lo hi number scope key lane : ℕ)
    → Each (λ c. (n : ℕ) → (refusal_of m c ≡ n) ↔ LowestExactly n (lines_of m c)) (papers_calls b lo hi number scope key lane)
papers_refused_by_lowest m b lo hi number scope key lane c i = refused_by_lowest m c (papers_numbers_ascend b lo hi number scope key lane c i)

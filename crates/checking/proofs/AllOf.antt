-- What `all` answers where its closure computes a test: of the numbers of a range, `all_from` of that test; and of words, the test of each of them.
-- Assumes nothing.
use Prim.{Unit}
use Prim.Native.Nat.{ℕ, zero, suc, ◌+◌, ◌-◌, ◌≤◌}
use mathlib.Core.Path.{◌≡◌, refl, sym, ◌∙◌, subst, ap}
use mathlib.Core.Bool.{Bool, true, false}
use mathlib.Core.List.{List, [], ◌∷◌}
use mathlib.Core.Logic.{⊎_elim}
use native.Mathlib.Omega.{arith}
use denote.Param.Members.{Mut}
use lib.ListN.{length, take, drop, get_or}
use lib.Seq.{drop-cons}
use Rattle.std.specs.Prelude.{Option, Some, None, IsTrue}
use Rattle.std.specs.Bool.{MatchBool}
use Rattle.std.specs.Option.{IfSome, IsSomeAnd, option_map}
use Rattle.std.specs.Fn.{Called}
use Rattle.std.specs.Iterator.Runs.{Run, SomeRun, ItemsCountUp, AllItemsGive, AnyItemGives, CallKeepsClosure}
use Rattle.std.specs.Range.{range_inclusive_start, range_inclusive_end, range_inclusive_exhausted}
use Rattle.std.proofs.iter.runs.Sources.{range_runs, inclusive_listed, nat_range_inclusive_steps}
use Rattle.std.proofs.iter.Yields.{nat_range_steps}
use Rattle.std.specs.List.{list_all, slice_range}
use Rattle.std.specs.declared.ops.RangeInclusive.{RangeInclusive}
use Rattle.std.specs.declared.ops.Range.{Range}
use Rattle.rules.specs.Lists.{all, all_from}
use Rattle.rules.proofs.Connectives.{both}
use Rattle.rules.proofs.Lists.{all_from_means}
use Rattle.rules.proofs.Means.{itself, never, passes_or_fails}

-- the item at a place of the run
number_at : (o : Option ℕ) {n : ℕ} → option_map (λ y. y) o ≡ Some n → o ≡ Some n
number_at None e = e
number_at (Some x) e = e

module _ {F : Type 0} {g : Mut F (ℕ × Unit {0}) Bool} {f : F} (test : ℕ → Bool)
    (computes : (x : ℕ) (r : Bool) (h : F) → Called g f (x, tt) r h → (h ≡ f) × (r ≡ test x)) where
  keeps : CallKeepsClosure g f
  keeps a r h called = (computes a.0 r h called).0

  counted : {S : Type 0} {steps : S → Option ℕ → S → Type 0} (p : Run steps) (a b : ℕ) → ItemsCountUp p a b
      → (r : Bool) → MatchBool r (IsTrue p.whole × AllItemsGive p g f true) (AnyItemGives p g f false) → r ≡ all_from test a (b - a)
  counted p a b up true h =
      sym ((all_from_means a (b - a) (λ j _ _. itself (test j))).test
      (λ j l m. let k = j - a in
      let here : a + k ≡ j = omega arith in
      let at = number_at (p.at k) (up.3 k (omega (arith, up.1 h.0))) in
      let called = subst (λ o. IfSome o (λ x. Called g f (x, tt) true f)) at (h.1 keeps k) in
      subst (λ n. test n ≡ true) here (sym (computes (a + k) true f called).1)))
  counted p a b up false h =
      let any = h keeps in
      let k = any.0 in
      let at = number_at (p.at k) (up.3 k any.1) in
      let called = subst (λ o. IsSomeAnd o (λ x. Called g f (x, tt) false f)) at any.2 in
      let fails = (computes (a + k) false f called).1 in
      ⊎_elim
      (λ e. never (fails ∙ (all_from_means a (b - a) (λ j _ _. itself (test j))).fact e (a + k) (omega arith) (omega (arith, up.0))))
      (λ e. sym e)
      (passes_or_fails (all_from test a (b - a)))

  -- over `a..b`
  pub all_below : (a n : ℕ) {s : Range ℕ} (r : Bool)
      → SomeRun nat_range_steps s (λ p. MatchBool r (IsTrue p.whole × AllItemsGive p g f true) (AnyItemGives p g f false))
      → s.start ≡ a → s.end - s.start ≡ n → r ≡ all_from test a n
  all_below a n {s} r h from size =
      let p = h.0 in
      let up : ItemsCountUp p s.start s.end = subst (λ t. ItemsCountUp p t.start t.end) h.1 (range_runs p p.seen) in
      rw (← from, ← size) (counted p s.start s.end up r h.2)

  -- over `a..=b`
  pub all_up_to : (a n : ℕ) {s : RangeInclusive ℕ} (r : Bool)
      → SomeRun nat_range_inclusive_steps s (λ p. MatchBool r (IsTrue p.whole × AllItemsGive p g f true) (AnyItemGives p g f false))
      → range_inclusive_start s ≡ a → range_inclusive_end s + 1 - a ≡ n → range_inclusive_exhausted s ≡ false → r ≡ all_from test a n
  all_up_to a n {s} r h from size fresh =
      let p = h.0 in
      let runs = inclusive_listed p p.seen in
      let up = (runs.4 (ap range_inclusive_exhausted h.1 ∙ fresh)).0 in
      let first : runs.0 ≡ a = runs.2 ∙ ap range_inclusive_start h.1 ∙ from in
      let last : runs.1 - runs.0 ≡ n = omega (arith, first, runs.3, ap range_inclusive_end h.1) in
      rw (← first, ← last) (counted p runs.0 runs.1 up r h.2)

module _ (test : ℕ → Bool) where
  -- std's test of each element of a list is that of the rules
  pub all_are : (xs : List ℕ) → list_all test xs ≡ all test xs
  all_are [] = refl
  all_are (x ∷ xs) = both refl (all_are xs)

  -- .. and word by word, by their indexes
  read_each : (words : List ℕ) (a n : ℕ) → a + n ≤ length words → list_all test (take n (drop a words)) ≡ all_from (λ i. test (get_or words i 0)) a n
  read_each words a zero l = refl
  read_each words a (suc n) l = rw (drop-cons words a 0 (omega arith)) (both refl (read_each words (suc a) n (omega arith)))

  pub all_read : (words : List ℕ) (a n : ℕ) (end : ℕ) → end - a ≡ n → a + n ≤ length words
      → list_all test (slice_range words a end) ≡ all_from (λ i. test (get_or words i 0)) a n
  all_read words a n end e l = rw e (read_each words a n l)

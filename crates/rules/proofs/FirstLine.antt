-- "When the box says no", the number given: of any lines of the table the first that applies is given, and 0 where none does; so, where their numbers
-- ascend, the lowest number that applies. What two lists of lines give one after the other, and what a line before others gives.
-- Assumes nothing.
use Prim.Native.Nat.{ℕ, zero, suc, ◌≤◌, ◌<◌}
use mathlib.Core.Path.{◌≡◌, refl, sym, ◌∙◌, ap, subst}
use mathlib.Core.Bool.{Bool, true, false, cond}
use mathlib.Core.Logic.{◌↔◌, ◌⊎◌, inl, inr, ⊎_elim, ⊎_map}
use mathlib.Core.List.{List, [], ◌∷◌, ◌++◌, map}
use native.Mathlib.Omega.{arith}
use lib.Dec.{ltb}
use borrow.Author.Tests.{ltb-true, leb-true}
use Rattle.rules.specs.Lists.{all, ascend_from}
use Rattle.rules.specs.BoxSaysNo.{TableLine, refusal_by}
use Rattle.rules.proofs.Means.{Means, Fails, never, and_both, passes_or_fails, so_or_not, itself, eq_means}
use Rattle.rules.proofs.Lists.{In, Some, Each, some_cons, each_cons}

-- the first line decides where it applies ..
pub refusal_here : (l : TableLine) (ls : List TableLine) → l.applies ≡ true → refusal_by (l ∷ ls) ≡ l.refusal
refusal_here l ls e = rw e

-- .. and where it does not, the others do
pub refusal_next : (l : TableLine) (ls : List TableLine) → l.applies ≡ false → refusal_by (l ∷ ls) ≡ refusal_by ls
refusal_next l ls e = rw e

-- lines of which none applies are passed over
pub refusal_past : (xs ys : List TableLine) → Each (λ l. l.applies ≡ false) xs → refusal_by (xs ++ ys) ≡ refusal_by ys
refusal_past [] ys h = refl
refusal_past (l ∷ ls) ys h = refusal_next l (ls ++ ys) (h l (inl refl)) ∙ refusal_past ls ys (λ m i. h m (inr i))

-- the first line that applies is given
pub refusal_first : (xs : List TableLine) (l : TableLine) (ys : List TableLine) → Each (λ m. m.applies ≡ false) xs → l.applies ≡ true
    → refusal_by (xs ++ l ∷ ys) ≡ l.refusal
refusal_first xs l ys h e = refusal_past xs (l ∷ ys) h ∙ refusal_here l ys e

-- where lines give a number, lines after them change nothing
pub refusal_enough : (xs ys : List TableLine) → (refusal_by xs ≡ 0 → ⊥) → refusal_by (xs ++ ys) ≡ refusal_by xs
refusal_enough [] ys h = absurd (h refl)
refusal_enough (l ∷ ls) ys h = go l.applies refl (refusal_enough ls ys)
  where
    go : (t : Bool) → l.applies ≡ t → ((refusal_by ls ≡ 0 → ⊥) → refusal_by (ls ++ ys) ≡ refusal_by ls)
        → refusal_by (l ∷ ls ++ ys) ≡ refusal_by (l ∷ ls)
    go true e ih = rw e
    go false e ih = rw e (ih (λ z. h (refusal_next l ls e ∙ z)))

-- what is given is 0 or the number of a line
pub refusal_among : (ls : List TableLine) → In (refusal_by ls) (0 ∷ map (λ l. l.refusal) ls)
refusal_among [] = inl refl
refusal_among (l ∷ ls) = go l.applies (refusal_among ls)
  where
    go : (t : Bool) → In (refusal_by ls) (0 ∷ map (λ m. m.refusal) ls)
        → In (cond t l.refusal (refusal_by ls)) (0 ∷ l.refusal ∷ map (λ m. m.refusal) ls)
    go true i = inr (inl refl)
    go false i = ⊎_map (λ z. z) inr i

-- no line has the number; of a list written out `omega arith` proves it
abbrev pub Without : ℕ → List TableLine → Type 0
Without n [] = Unit {0}
Without n (l ∷ ls) = (l.refusal ≡ n → ⊥) × Without n ls

-- no line has the number 0, which says that nothing refuses
abbrev pub Numbered : List TableLine → Type 0
Numbered ls = Without 0 ls

-- a number that no line has is not given, but for 0
pub refusal_without : (n : ℕ) (ls : List TableLine) → 0 < n → Without n ls → refusal_by ls ≡ n → ⊥
refusal_without n [] h w z = omega arith
refusal_without n (l ∷ ls) h w z = go l.applies refl (refusal_without n ls h w.1)
  where
    go : (t : Bool) → l.applies ≡ t → (refusal_by ls ≡ n → ⊥) → ⊥
    go true e ih = w.0 (sym (refusal_here l ls e) ∙ z)
    go false e ih = ih (sym (refusal_next l ls e) ∙ z)

-- a number is given by a line of another number and what is given after it exactly when the line does not apply and the number is given after it
pub line_other : {a : Bool} {n : ℕ} {X Y : Type 0} (r s : ℕ) → (r ≡ s → ⊥) → Fails a X → (n ≡ s) ↔ Y → (cond a r n ≡ s) ↔ (X × Y)
line_other {a = true} r s h m e = (λ z. absurd (h z), λ p. never (sym (m.test p.0)))
line_other {a = false} r s h m e = (λ z. (m.fact refl, e.0 z), λ p. e.1 p.1)

-- .. and by a line of that number exactly when the line applies or the number is given after it
pub line_own : {a : Bool} {n : ℕ} {X Y : Type 0} (r : ℕ) → Means a X → (n ≡ r) ↔ Y → (cond a r n ≡ r) ↔ (X ⊎ Y)
line_own {a = true} r m e = (λ z. inl (m.fact refl), λ s. refl)
line_own {a = false} r m e = (λ z. inr (e.0 z), ⊎_elim (λ x. never (m.test x)) e.1)

-- the same for the last line
pub last_own : {a : Bool} {X : Type 0} (r : ℕ) → 0 < r → Means a X → (cond a r 0 ≡ r) ↔ X
last_own {a = true} r h m = (λ z. m.fact refl, λ x. refl)
last_own {a = false} r h m = (λ z. absurd (omega arith), λ x. never (m.test x))

-- nothing is given by a line and what is given after it exactly when the line does not apply and nothing is given after it
pub line_zero : {a : Bool} {n : ℕ} {X Y : Type 0} (r : ℕ) → 0 < r → Fails a X → (n ≡ 0) ↔ Y → (cond a r n ≡ 0) ↔ (X × Y)
line_zero r h = line_other r 0 (λ e. omega arith)

-- the same for the last line
pub last_zero : {a : Bool} {X : Type 0} (r : ℕ) → 0 < r → Fails a X → (cond a r 0 ≡ 0) ↔ X
last_zero {a = true} r h m = (λ z. absurd (omega arith), λ x. never (sym (m.test x)))
last_zero {a = false} r h m = (λ z. m.fact refl, λ x. refl)

-- a number that a line does not have is given exactly when the line does not apply and the lines after it give the number ..
pub line_passed : {X Y : Type 0} {s : ℕ} (l : TableLine) (ls : List TableLine) → (l.refusal ≡ s → ⊥) → Fails l.applies X
    → (refusal_by ls ≡ s) ↔ Y → (refusal_by (l ∷ ls) ≡ s) ↔ (X × Y)
line_passed {s} l ls h f e = line_other l.refusal s h f e

-- .. and before lines of other numbers a line gives its own exactly when it applies
pub line_gives : {X : Type 0} (l : TableLine) (ls : List TableLine) → 0 < l.refusal → Without l.refusal ls → Means l.applies X
    → (refusal_by (l ∷ ls) ≡ l.refusal) ↔ X
line_gives l ls p w f = (
  λ z. ⊎_elim f.fact (λ e. absurd (refusal_without l.refusal ls p w (sym (refusal_next l ls e) ∙ z))) (passes_or_fails l.applies),
  λ x. refusal_here l ls (f.test x),
)

-- 0 is given exactly when no line applies
pub refusal_zero : (ls : List TableLine) → Numbered ls → (refusal_by ls ≡ 0) ↔ Each (λ l. l.applies ≡ false) ls
refusal_zero [] o = (λ z l i. absurd i, λ h. refl)
refusal_zero (l ∷ ls) o =
    let e = line_passed l ls o.0 (itself l.applies) (refusal_zero ls o.1) in
    (λ z. (each_cons l ls).1 (e.0 z), λ h. e.1 ((each_cons l ls).0 h))

-- where lines give nothing, those after them decide ..
pub refusal_then : (xs ys : List TableLine) → Numbered xs → refusal_by xs ≡ 0 → refusal_by (xs ++ ys) ≡ refusal_by ys
refusal_then xs ys o z = refusal_past xs ys ((refusal_zero xs o).0 z)

-- .. and nothing is given by both exactly when neither gives a number
pub refusal_neither : {X Y : Type 0} (xs ys : List TableLine) → Numbered xs → (refusal_by xs ≡ 0) ↔ X → (refusal_by ys ≡ 0) ↔ Y
    → (refusal_by (xs ++ ys) ≡ 0) ↔ (X × Y)
refusal_neither xs ys o e f = (
  λ z. ⊎_elim
      (λ none. (e.0 none, f.0 (sym (refusal_then xs ys o none) ∙ z)))
      (λ some. absurd (some (sym (refusal_enough xs ys some) ∙ z)))
      (so_or_not (eq_means (refusal_by xs) 0)),
  λ h. refusal_then xs ys o (e.1 h.0) ∙ f.1 h.1,
)

without_append : (n : ℕ) (xs ys : List TableLine) → Without n (xs ++ ys) → Without n xs × Without n ys
without_append n [] ys w = (tt, w)
without_append n (l ∷ ls) ys w = let t = without_append n ls ys w.1 in ((w.0, t.0), t.1)

-- among lines that all have a number, and none but one that number, the one gives it exactly when those before it give nothing and it applies
pub line_gives_after : {X Y : Type 0} (xs : List TableLine) (l : TableLine) (ys : List TableLine)
    → Numbered (xs ++ l ∷ ys) × Without l.refusal (xs ++ ys) → (refusal_by xs ≡ 0) ↔ X → Means l.applies Y
    → (refusal_by (xs ++ l ∷ ys) ≡ l.refusal) ↔ (X × Y)
line_gives_after xs l ys only e m =
    let numbered = without_append 0 xs (l ∷ ys) only.0 in
    let apart = without_append l.refusal xs ys only.1 in
    let above : 0 < l.refusal = let not_0 = numbered.1.0 in omega arith in (
      λ z. ⊎_elim
          (λ none. (e.0 none, (line_gives l ys above apart.1 m).0 (sym (refusal_then xs (l ∷ ys) numbered.0 none) ∙ z)))
          (λ some. absurd (refusal_without l.refusal xs above apart.0 (sym (refusal_enough xs (l ∷ ys) some) ∙ z)))
          (so_or_not (eq_means (refusal_by xs) 0)),
      λ f. refusal_then xs (l ∷ ys) numbered.0 (e.1 f.0) ∙ refusal_here l ys (m.test f.1),
    )

-- the number is given: the list is lines of which none applies, then a line of that number that applies, then any others
pub record Given (ls : List TableLine) (n : ℕ) : Type 0 where
  pub before : List TableLine
  pub first : TableLine
  pub others : List TableLine
  pub in_order : ls ≡ before ++ first ∷ others
  pub none_before : Each (λ l. l.applies ≡ false) before
  pub first_applies : first.applies ≡ true
  pub its_number : first.refusal ≡ n

given : (ls : List TableLine) (n : ℕ) → 0 < n → refusal_by ls ≡ n → Given ls n
given [] n h e = absurd (omega arith)
given (l ∷ ls) n h e = go l.applies refl (given ls n h)
  where
    go : (t : Bool) → l.applies ≡ t → (refusal_by ls ≡ n → Given ls n) → Given (l ∷ ls) n
    go true a ih =
        record {
          before = [];
          first = l;
          others = ls;
          in_order = refl;
          none_before = λ m i. absurd i;
          first_applies = a;
          its_number = sym (refusal_here l ls a) ∙ e;
        }
    go false a ih =
        let g = ih (sym (refusal_next l ls a) ∙ e) in
        record {
          before = l ∷ g.before;
          first = g.first;
          others = g.others;
          in_order = ap (λ ms. l ∷ ms) g.in_order;
          none_before = (each_cons l g.before).1 (a, g.none_before);
          first_applies = g.first_applies;
          its_number = g.its_number;
        }

-- so it is of every list of lines and every number but 0 ..
pub refusal_given : (ls : List TableLine) (n : ℕ) → 0 < n → (refusal_by ls ≡ n) ↔ Given ls n
refusal_given ls n h = (
  given ls n h,
  λ g. ap refusal_by g.in_order ∙ refusal_first g.before g.first g.others g.none_before g.first_applies ∙ g.its_number,
)

-- .. and 0 is to be given where none applies
abbrev pub GivenExactly : ℕ → List TableLine → Type 0
GivenExactly zero ls = Each (λ l. l.applies ≡ false) ls
GivenExactly (suc n) ls = Given ls (suc n)

pub refusal_exactly : (ls : List TableLine) → Numbered ls → (n : ℕ) → (refusal_by ls ≡ n) ↔ GivenExactly n ls
refusal_exactly ls o zero = refusal_zero ls o
refusal_exactly ls o (suc n) = refusal_given ls (suc n) (omega arith)

-- whether a line has the number 0 is seen from the numbers alone
pub numbered_by_numbers : (ls : List TableLine) → all (ltb 0) (map (λ l. l.refusal) ls) ≡ true → Numbered ls
numbered_by_numbers [] e = tt
numbered_by_numbers (l ∷ ls) e =
    let t = and_both _ _ e in
    (λ z. omega (arith, ltb-true 0 l.refusal t.0), numbered_by_numbers ls t.1)

-- ---- where numbers ascend, "the lowest number that applies is given"

-- the lines' numbers ascend, the first at least c; neighbours may have one number
abbrev pub Ordered : ℕ → List TableLine → Type 0
Ordered c [] = Unit {0}
Ordered c (l ∷ ls) = (c ≤ l.refusal) × Ordered l.refusal ls

-- and that is seen from the numbers alone
pub ordered_by_numbers : (c : ℕ) (ls : List TableLine) → ascend_from c (map (λ l. l.refusal) ls) ≡ true → Ordered c ls
ordered_by_numbers c [] e = tt
ordered_by_numbers c (l ∷ ls) e =
    let t = and_both _ _ e in
    (leb-true c l.refusal t.0, ordered_by_numbers l.refusal ls t.1)

-- no number is below the first
pub ordered_from : (c : ℕ) (ls : List TableLine) → Ordered c ls → Each (λ l. c ≤ l.refusal) ls
ordered_from c [] o = λ l i. absurd i
ordered_from c (l ∷ ls) o = (each_cons l ls).1 (o.0, λ m i. omega (arith, ordered_from l.refusal ls o.1 m i))

-- a line of that number applies, and no line that applies has a lower number
abbrev pub Lowest : List TableLine → ℕ → Type 0
Lowest ls n = Some (λ l. (l.applies ≡ true) × (l.refusal ≡ n)) ls × Each (λ l. l.applies ≡ true → n ≤ l.refusal) ls

ordered_lowest : (c : ℕ) (ls : List TableLine) → Ordered c ls → (refusal_by ls ≡ 0 → ⊥) → Lowest ls (refusal_by ls)
ordered_lowest c [] o h = absurd (h refl)
ordered_lowest c (l ∷ ls) o h = go l.applies refl (ordered_lowest l.refusal ls o.1)
  where
    go : (t : Bool) → l.applies ≡ t → ((refusal_by ls ≡ 0 → ⊥) → Lowest ls (refusal_by ls)) → Lowest (l ∷ ls) (refusal_by (l ∷ ls))
    go true e ih =
        subst (Lowest (l ∷ ls)) (sym (refusal_here l ls e))
        ((l, inl refl, (e, refl)), λ m i a. ordered_from l.refusal (l ∷ ls) (omega arith, o.1) m i)
    go false e ih =
        let g = ih (λ z. h (refusal_next l ls e ∙ z)) in
        subst (Lowest (l ∷ ls)) (sym (refusal_next l ls e))
        ((some_cons l ls).1 (inr g.0), (each_cons l ls).1 (λ a. never (sym e ∙ a), g.1))

-- no number is 0 where the first is above it
pub ordered_numbered : (c : ℕ) (ls : List TableLine) → 0 < c → Ordered c ls → Numbered ls
ordered_numbered c [] h o = tt
ordered_numbered c (l ∷ ls) h o = (omega arith, ordered_numbered l.refusal ls (omega arith) o.1)

-- of lines whose numbers ascend the first that applies is the lowest that applies ..
pub lowest_given : (ls : List TableLine) → Ordered 1 ls → (n : ℕ) → 0 < n → (refusal_by ls ≡ n) ↔ Lowest ls n
lowest_given ls o n h = (λ e. subst (Lowest ls) e (ordered_lowest 1 ls o (λ z. omega arith)), same)
  where
    same : Lowest ls n → refusal_by ls ≡ n
    same g =
        let none = refusal_zero ls (ordered_numbered 1 ls (omega arith) o) in
        let g' = ordered_lowest 1 ls o (λ z. never (sym (none.0 z g.0.0 g.0.1) ∙ g.0.2.0)) in
        let a = g.1 g'.0.0 g'.0.1 g'.0.2.0 in
        let b = g'.1 g.0.0 g.0.1 g.0.2.0 in
        omega arith

-- .. and 0 is given where none applies
abbrev pub LowestExactly : ℕ → List TableLine → Type 0
LowestExactly zero ls = Each (λ l. l.applies ≡ false) ls
LowestExactly (suc n) ls = Lowest ls (suc n)

pub lowest_exactly : (ls : List TableLine) → Ordered 1 ls → (n : ℕ) → (refusal_by ls ≡ n) ↔ LowestExactly n ls
lowest_exactly ls o zero = refusal_zero ls (ordered_numbered 1 ls (omega arith) o)
lowest_exactly ls o (suc n) = lowest_given ls o (suc n) (omega arith)

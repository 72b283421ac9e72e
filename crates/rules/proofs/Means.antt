-- What tests mean: laws that lead from a test to a plain fact and back.
-- `Means t X`: the test t passes exactly when X. `Fails t X`: it fails exactly when X. Of either, `.fact` leads to X and `.test` back.
-- Assumes nothing.
use Prim.Native.Nat.{ℕ, ◌≤◌, ◌<◌}
use mathlib.Core.Path.{◌≡◌, refl, sym, ◌∙◌, ap}
use mathlib.Core.Bool.{Bool, true, false, not, cond, false≢true}
use mathlib.Core.Logic.{◌⊎◌, inl, inr, ⊎_elim, ⊎_map}
use lib.Dec.{leb, ltb, eqb}
use borrow.Author.Tests.{ltb-true, ltb-false, leb-true, leb-false, eqb-true, not-true, not-false, lt-ltb, le-ltb, le-leb, lt-leb, eq-eqb}
use Rattle.rules.specs.Connectives.{◌and◌, ◌or◌}

-- ---- one test, two tests

-- nothing both passes and fails
pub never {ℓ} : {X : Type ℓ} → false ≡ true → X
never e = absurd (false≢true e)

-- a test passes or fails, with the equation
pub passes_or_fails : (t : Bool) → (t ≡ true) ⊎ (t ≡ false)
passes_or_fails true = inl refl
passes_or_fails false = inr refl

-- tests that pass together are equal
pub same_test : (a b : Bool) → (a ≡ true → b ≡ true) → (b ≡ true → a ≡ true) → a ≡ b
same_test true true f g = refl
same_test true false f g = sym (f refl)
same_test false true f g = g refl
same_test false false f g = refl

pub and_both : (a b : Bool) → a and b ≡ true → (a ≡ true) × (b ≡ true)
unfolding ◌and◌
and_both true b h = (refl, h)
and_both false b h = never h

pub both_and : (a b : Bool) → a ≡ true → b ≡ true → a and b ≡ true
unfolding ◌and◌
both_and true b p q = q
both_and false b p q = p

pub and_false : (a b : Bool) → a and b ≡ false → (a ≡ false) ⊎ (b ≡ false)
unfolding ◌and◌
and_false true b h = inr h
and_false false b h = inl refl

pub false_and : (a b : Bool) → (a ≡ false) ⊎ (b ≡ false) → a and b ≡ false
unfolding ◌and◌
false_and true b (inl p) = never (sym p)
false_and true b (inr q) = q
false_and false b h = refl

pub and_true : (t : Bool) → t and true ≡ t
unfolding ◌and◌
and_true true = refl
and_true false = refl

pub or_either : (a b : Bool) → a or b ≡ true → (a ≡ true) ⊎ (b ≡ true)
unfolding ◌or◌
or_either true b h = inl refl
or_either false b h = inr h

pub either_or : (a b : Bool) → (a ≡ true) ⊎ (b ≡ true) → a or b ≡ true
unfolding ◌or◌
either_or true b h = refl
either_or false b (inl p) = never p
either_or false b (inr q) = q

pub or_left : (a b : Bool) → a ≡ true → a or b ≡ true
or_left a b p = either_or a b (inl p)

pub or_right : (a b : Bool) → b ≡ true → a or b ≡ true
or_right a b q = either_or a b (inr q)

pub or_false : (a b : Bool) → a or b ≡ false → (a ≡ false) × (b ≡ false)
unfolding ◌or◌
or_false true b h = never (sym h)
or_false false b h = (refl, h)

pub false_or : (a b : Bool) → a ≡ false → b ≡ false → a or b ≡ false
unfolding ◌or◌
false_or true b p q = p
false_or false b p q = q

-- ---- what a test means

-- the test has the value exactly when the fact holds
pub record When (t v : Bool) (X : Type 0) : Type 0 where
  pub fact : t ≡ v → X
  pub test : X → t ≡ v

abbrev pub Means : Bool → Type 0 → Type 0
Means t X = When t true X

abbrev pub Fails : Bool → Type 0 → Type 0
Fails t X = When t false X

-- the fact in other words
pub reworded : {t v : Bool} {X Y : Type 0} → When t v X → (X → Y) → (Y → X) → When t v Y
reworded m f g = record { fact = λ e. f (m.fact e); test = λ y. m.test (g y) }

-- a test of which nothing more is said
pub itself : {v : Bool} (t : Bool) → When t v (t ≡ v)
itself t = record { fact = λ e. e; test = λ e. e }

module _ {t : Bool} {X : Type 0} where
  pub denied : Means t X → Fails t (X → ⊥)
  denied m =
      record {
        fact = λ e x. never (sym e ∙ m.test x);
        test = λ n. ⊎_elim (λ e. absurd (n (m.fact e))) (λ e. e) (passes_or_fails t);
      }

  -- what is tested is so, or is not
  pub so_or_not : Means t X → X ⊎ (X → ⊥)
  so_or_not m = ⊎_map m.fact (denied m).fact (passes_or_fails t)

  pub not_means : Fails t X → Means (not t) X
  not_means m = record { fact = λ e. m.fact (not-true t e); test = λ x. ap not (m.test x) }

  pub not_fails : Means t X → Fails (not t) X
  not_fails m = record { fact = λ e. m.fact (not-false t e); test = λ x. ap not (m.test x) }

module _ {a b : Bool} {X Y : Type 0} where
  pub and_means : Means a X → Means b Y → Means (a and b) (X × Y)
  and_means p q =
      record {
        fact = λ h. let s = and_both a b h in (p.fact s.0, q.fact s.1);
        test = λ f. both_and a b (p.test f.0) (q.test f.1);
      }

  pub and_fails : Fails a X → Fails b Y → Fails (a and b) (X ⊎ Y)
  and_fails p q =
      record {
        fact = λ h. ⊎_map p.fact q.fact (and_false a b h);
        test = λ f. false_and a b (⊎_map p.test q.test f);
      }

  pub or_means : Means a X → Means b Y → Means (a or b) (X ⊎ Y)
  or_means p q =
      record {
        fact = λ h. ⊎_map p.fact q.fact (or_either a b h);
        test = λ f. either_or a b (⊎_map p.test q.test f);
      }

  pub or_fails : Fails a X → Fails b Y → Fails (a or b) (X × Y)
  or_fails p q =
      record {
        fact = λ h. let s = or_false a b h in (p.fact s.0, q.fact s.1);
        test = λ f. false_or a b (p.test f.0) (q.test f.1);
      }

  -- two tests are equal when their facts imply each other
  pub same_means : Means a X → Means b Y → (X → Y) → (Y → X) → a ≡ b
  same_means p q f g = same_test a b (λ e. q.test (f (p.fact e))) (λ e. p.test (g (q.fact e)))

pub and3_means : {a b c : Bool} {X Y Z : Type 0} → Means a X → Means b Y → Means c Z → Means (a and b and c) (X × Y × Z)
and3_means p q r = reworded (and_means p (and_means q r)) (λ h. (h.0, h.1.0, h.1.1)) (λ h. (h.0, (h.1, h.2)))

-- what the second means need be known only where the first passes
pub then_means : {a b : Bool} {X Y : Type 0} → Means a X → (X → Means b Y) → Means (a and b) (X × Y)
then_means {a} {b} p q =
    record {
      fact = λ h. let s = and_both a b h in let x = p.fact s.0 in (x, (q x).fact s.1);
      test = λ f. both_and a b (p.test f.0) ((q f.0).test f.1);
    }

-- where the first passes the second fails
pub then_fails : {a b : Bool} {X Y : Type 0} → Means a X → Fails b Y → Fails (a and b) (X → Y)
then_fails {a} {b} p q =
    record {
      fact = λ h x. ⊎_elim (λ e. never (sym e ∙ p.test x)) q.fact (and_false a b h);
      test = λ f. ⊎_elim (λ e. false_and a b (inr (q.test (f (p.fact e))))) (λ e. false_and a b (inl e)) (passes_or_fails a);
    }

-- the first does not pass without the second
pub implies_fails : {a b : Bool} {X Y : Type 0} → Means a X → Means b Y → Fails (a and not b) (X → Y)
implies_fails p q = then_fails p (not_fails q)

module _ (x y : ℕ) where
  pub lt_means : Means (ltb x y) (x < y)
  lt_means = record { fact = ltb-true x y; test = lt-ltb x y }

  pub lt_fails : Fails (ltb x y) (y ≤ x)
  lt_fails = record { fact = ltb-false x y; test = le-ltb x y }

  pub le_means : Means (leb x y) (x ≤ y)
  le_means = record { fact = leb-true x y; test = le-leb x y }

  pub le_fails : Fails (leb x y) (y < x)
  le_fails = record { fact = leb-false x y; test = lt-leb x y }

  pub eq_means : Means (eqb x y) (x ≡ y)
  eq_means = record { fact = eqb-true x y; test = eq-eqb x y }

  pub at_most_or_above : (x ≤ y) ⊎ (y < x)
  at_most_or_above = ⊎_map (leb-true x y) (leb-false x y) (passes_or_fails (leb x y))

-- laid where one test passes, over what was laid where another does: laid where either does
pub overlaid : {over under either : Bool} {X Y Z : Type 0} {d x : ℕ} (y : ℕ) → Means over X → Means under Y → Means either Z → (X → Z)
    → (Y → Z) → (Z → X ⊎ Y) → (X → d ≡ x) → cond over d (cond under x y) ≡ cond either x y
overlaid {over = true} y o u e first second one same = rw (e.test (first (o.fact refl))) (same (o.fact refl))
overlaid {over = false} y o u e first second one same =
    rw (same_means u e second (λ z. ⊎_elim (λ x. absurd ((denied o).fact refl x)) (λ h. h) (one z)))

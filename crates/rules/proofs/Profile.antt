-- "What is built", the live bands of a profile: which numbers are live and which band a number names, to and from membership.
-- Assumes nothing.
use Prim.Native.Nat.{ℕ}
use mathlib.Core.Path.{◌≡◌, refl, sym, ◌∙◌, ap}
use mathlib.Core.Logic.Iff
use mathlib.Core.Logic.{◌↔◌}
use mathlib.Core.List.{List}
use mathlib.Core.Option.{Option, none, some}
use Rattle.rules.specs.Lists.{keep}
use Rattle.rules.specs.HallLine.{Band}
use Rattle.rules.specs.Profile.{Profile, has_number, has_scope, is_live, band_numbered}
use Rattle.rules.proofs.Means.{Means, eq_means}
use Rattle.rules.proofs.Lists.{In, Some, Each, any_means, in_keep, first_in, first_none, Ascends, ascends_once}

pub has_number_means : (n : ℕ) (b : Band) → Means (has_number n b) (b.number ≡ n)
unfolding has_number
has_number_means n b = eq_means b.number n

pub has_scope_means : (m : ℕ) (b : Band) → Means (has_scope m b) (b.scope ≡ m)
unfolding has_scope
has_scope_means m b = eq_means b.scope m

pub is_live_means : (n : ℕ) (bs : List Band) → Means (is_live n bs) (Some (λ b. b.number ≡ n) bs)
unfolding is_live
is_live_means n bs = any_means (has_number_means n) bs

-- each band that is not so is live in both profiles or in neither
abbrev pub SameBut : (Band → Type 0) → Profile → Profile → Type 0
SameBut P p q = (b : Band) → (P b → ⊥) → In b p.bands ↔ In b q.bands

-- so it is of two such steps, one after the other
pub same_but_then : {P : Band → Type 0} (p q r : Profile) → SameBut P p q → SameBut P q r → SameBut P p r
same_but_then p q r first second b off = Iff.trans (first b off) (second b off)

-- no live band of the number is so
abbrev pub NoneBy : (Band → Type 0) → ℕ → Profile → Type 0
NoneBy P number p = Each (λ b. b.number ≡ number → P b → ⊥) p.bands

-- a number other than n: none of its bands has the number n
pub other_number : (p : Profile) (n number : ℕ) → (number ≡ n → ⊥) → NoneBy (λ b. b.number ≡ n) number p
other_number p n number other b i e own = other (sym e ∙ own)

-- band numbers ascend strictly, the first at least c
abbrev pub NumbersAsc : ℕ → List Band → Type 0
NumbersAsc = Ascends (λ b. b.number)

module _ (n : ℕ) (bs : List Band) where
  -- the band that a number names is live and has the number
  pub numbered_in : (b : Band) → band_numbered n bs ≡ some b → In b bs × (b.number ≡ n)
  unfolding band_numbered
  numbered_in b e = let k = (in_keep (has_number n) b bs).0 (first_in b (keep (has_number n) bs) e) in (k.0, (has_number_means n b).fact k.1)

  pub numbered_none : (band_numbered n bs ≡ none) ↔ Each (λ b. b.number ≡ n → ⊥) bs
  unfolding band_numbered
  numbered_none = (
    λ e b i q. (first_none (keep (has_number n) bs)).0 e b ((in_keep (has_number n) b bs).1 (i, (has_number_means n b).test q)),
    λ h. (first_none (keep (has_number n) bs)).1 (λ b i. let k = (in_keep (has_number n) b bs).0 i in h b k.0 ((has_number_means n b).fact k.1)),
  )

-- where numbers ascend a live band is the one that its number names
pub numbered : (c : ℕ) (bs : List Band) → NumbersAsc c bs → (b : Band) → In b bs → band_numbered b.number bs ≡ some b
numbered c bs a b i = go (band_numbered b.number bs) refl
  where
    go : (o : Option Band) → band_numbered b.number bs ≡ o → band_numbered b.number bs ≡ some b
    go none e = absurd ((numbered_none b.number bs).0 e b i refl)
    go (some d) e = let k = numbered_in b.number bs d e in e ∙ ap some (ascends_once (λ x. x.number) c bs a d b k.0 i k.1)

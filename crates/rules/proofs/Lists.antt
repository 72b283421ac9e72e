-- What the tests over lists and lanes mean, by membership; places in a list; runs of stores; ascending lists; who stands in a list made of another.
-- Assumes nothing.
use Prim.Native.Nat.{ℕ, zero, suc, ◌+◌, ◌-◌, ◌≤◌, ◌<◌}
use mathlib.Core.Path.{◌≡◌, refl, sym, ◌∙◌, ap, ap₂, subst, subst⁻¹}
use mathlib.Core.Bool.{Bool, true, false, cond}
use mathlib.Core.Logic.{◌↔◌, ◌⊎◌, inl, inr, ⊎_elim, ⊎_map}
use mathlib.Core.List.{List, [], ◌∷◌, ◌++◌, map}
use mathlib.Core.Option.{none, some}
use native.Mathlib.Numerals.{add-one}
use native.Mathlib.Omega.{arith}
use native.Mathlib.Nat.{eq-or-lt_of_le, add-zero}
use lib.Dec.{ltb, eqb}
use lib.ListN.{length, get_or, take, drop, set, length-drop, length-set}
use lib.Seq.{sets, take-suc, drop-cons, drop-nil, drop-drop, get_or-set_same, get_or-set_other}
use borrow.Author.Tests.{ltb-true, ltb-false, lt-ltb, le-ltb}
use Rattle.rules.specs.Connectives.{◌and◌, one_if}
use Rattle.rules.specs.Lists.{only_if, add_if, any, all, keep, first_of, count_if, member, distinct, some_lane, placed, same_numbers, all_from}
use Rattle.rules.proofs.Means.{Fails, Means, and_fails, and_means, and_true, denied, eq_means, itself, never, not_means, or_fails, or_means, passes_or_fails, reworded}

-- ---- lists

module _ {A : Type 0} where
  -- x stands in the list
  abbrev pub In : A → List A → Type 0
  In x [] = ⊥
  In x (y ∷ ys) = (x ≡ y) ⊎ In x ys

  -- some element of the list is so
  abbrev pub Some : (A → Type 0) → List A → Type 0
  Some P xs = (x : A) × In x xs × P x

  -- each element of the list is so
  abbrev pub Each : (A → Type 0) → List A → Type 0
  Each P xs = (x : A) → In x xs → P x

module _ {A : Type 0} {P : A → Type 0} (x : A) (xs : List A) where
  pub some_cons : Some P (x ∷ xs) ↔ (P x ⊎ Some P xs)
  some_cons = (λ s. first s.0 s.1 s.2, ⊎_elim (λ p. (x, inl refl, p)) (λ s. (s.0, inr s.1, s.2)))
    where
      first : (y : A) → In y (x ∷ xs) → P y → P x ⊎ Some P xs
      first y (inl e) p = inl (subst P e p)
      first y (inr i) p = inr (y, i, p)

  pub each_cons : Each P (x ∷ xs) ↔ (P x × Each P xs)
  each_cons = (λ h. (h x (inl refl), λ y i. h y (inr i)), join)
    where
      join : P x × Each P xs → Each P (x ∷ xs)
      join h y (inl e) = subst P (sym e) h.0
      join h y (inr i) = h.1 y i

module _ {A : Type 0} {f : A → Bool} {P : A → Type 0} where
  pub any_means : ((x : A) → Means (f x) (P x)) → (xs : List A) → Means (any f xs) (Some P xs)
  any_means m [] = record { fact = never; test = λ s. absurd s.1 }
  any_means m (x ∷ xs) = reworded (or_means (m x) (any_means m xs)) (some_cons x xs).1 (some_cons x xs).0

  pub any_fails : ((x : A) → Fails (f x) (P x)) → (xs : List A) → Fails (any f xs) (Each P xs)
  any_fails m [] = record { fact = λ e x i. absurd i; test = λ h. refl }
  any_fails m (x ∷ xs) = reworded (or_fails (m x) (any_fails m xs)) (each_cons x xs).1 (each_cons x xs).0

  pub all_means : ((x : A) → Means (f x) (P x)) → (xs : List A) → Means (all f xs) (Each P xs)
  all_means m [] = record { fact = λ e x i. absurd i; test = λ h. refl }
  all_means m (x ∷ xs) = reworded (and_means (m x) (all_means m xs)) (each_cons x xs).1 (each_cons x xs).0

  pub all_fails : ((x : A) → Fails (f x) (P x)) → (xs : List A) → Fails (all f xs) (Some P xs)
  all_fails m [] = record { fact = λ e. never (sym e); test = λ s. absurd s.1 }
  all_fails m (x ∷ xs) = reworded (and_fails (m x) (all_fails m xs)) (some_cons x xs).1 (some_cons x xs).0

-- the same with the test itself for the fact
module _ {A : Type 0} (f : A → Bool) (xs : List A) where
  pub any_some : any f xs ≡ true → Some (λ x. f x ≡ true) xs
  any_some = (any_means (λ x. itself (f x)) xs).fact

  pub some_any : (x : A) → In x xs → f x ≡ true → any f xs ≡ true
  some_any x i p = (any_means (λ y. itself (f y)) xs).test (x, i, p)

  pub any_none : any f xs ≡ false → Each (λ x. f x ≡ false) xs
  any_none = (any_fails (λ x. itself (f x)) xs).fact

  pub none_any : Each (λ x. f x ≡ false) xs → any f xs ≡ false
  none_any = (any_fails (λ x. itself (f x)) xs).test

  pub all_each : all f xs ≡ true → Each (λ x. f x ≡ true) xs
  all_each = (all_means (λ x. itself (f x)) xs).fact

  pub each_all : Each (λ x. f x ≡ true) xs → all f xs ≡ true
  each_all = (all_means (λ x. itself (f x)) xs).test

-- a test for being x finds x where it stands
pub find_means : {A : Type 0} {f : A → Bool} {x : A} → ((y : A) → Means (f y) (y ≡ x)) → (xs : List A) → Means (any f xs) (In x xs)
find_means {x} m xs = reworded (any_means m xs) (λ s. subst (λ y. In y xs) s.2 s.1) (λ i. (x, i, refl))

pub member_means : (n : ℕ) (xs : List ℕ) → Means (member n xs) (In n xs)
member_means n xs = find_means (λ x. reworded (eq_means n x) sym sym) xs

pub same_numbers_means : (xs ys : List ℕ) → Means (same_numbers xs ys) (xs ≡ ys)
same_numbers_means [] [] = record { fact = λ e. refl; test = λ p. refl }
same_numbers_means [] (y ∷ ys) = record { fact = never; test = λ p. let z : ◌≡◌ {A = ℕ} 0 1 = cc in absurd (omega arith) }
same_numbers_means (x ∷ xs) [] = record { fact = never; test = λ p. let z : ◌≡◌ {A = ℕ} 0 1 = cc in absurd (omega arith) }
same_numbers_means (x ∷ xs) (y ∷ ys) =
    reworded (and_means (eq_means x y) (same_numbers_means xs ys)) (λ h i. h.0 i ∷ h.1 i) (λ p. (cc, cc))

-- no number stands twice
abbrev pub Distinct : List ℕ → Type 0
Distinct [] = Unit {0}
Distinct (x ∷ xs) = (In x xs → ⊥) × Distinct xs

pub distinct_means : (xs : List ℕ) → Means (distinct xs) (Distinct xs)
distinct_means [] = record { fact = λ e. tt; test = λ d. refl }
distinct_means (x ∷ xs) = and_means (not_means (denied (member_means x xs))) (distinct_means xs)

pub in_add_if : {A : Type 0} (t : Bool) (x y : A) (xs : List A) → In y (add_if t x xs) ↔ (((t ≡ true) × (y ≡ x)) ⊎ In y xs)
in_add_if true x y xs = (⊎_map (λ e. (refl, e)) (λ i. i), ⊎_map (λ p. p.1) (λ i. i))
in_add_if false x y xs = (inr, ⊎_elim (λ p. never p.0) (λ i. i))

-- who stands in a list that is made by going through another and adding, of each element that passes, what is taken of it
module _ {A B : Type 0} {f : A → Bool} {P : A → Type 0} (m : (x : A) → Means (f x) (P x)) (taken : A → B) (made : List A → List B)
    (none : made [] ≡ []) (more : (x : A) (xs : List A) → made (x ∷ xs) ≡ add_if (f x) (taken x) (made xs)) where
  pub in_made : (y : B) (xs : List A) → In y (made xs) ↔ Some (λ x. P x × (taken x ≡ y)) xs
  in_made y [] = (λ i. absurd (subst (In y) none i), λ s. absurd s.1)
  in_made y (x ∷ xs) = (
    λ i. (some_cons x xs).1 (⊎_map (λ p. ((m x).fact p.0, sym p.1)) (in_made y xs).0 ((in_add_if (f x) _ _ _).0 (subst (In y) (more x xs) i))),
    λ s. subst⁻¹ (In y) (more x xs) ((in_add_if (f x) _ _ _).1 (⊎_map (λ q. ((m x).test q.0, sym q.1)) (in_made y xs).1 ((some_cons x xs).0 s))),
  )

  -- .. and how many
  pub length_made : (xs : List A) → length (made xs) ≡ count_if f xs
  length_made [] = rw none
  length_made (x ∷ xs) = rw (more x xs) (go (f x) (length_made xs))
    where
      go : (t : Bool) → length (made xs) ≡ count_if f xs → length (add_if t (taken x) (made xs)) ≡ one_if t + count_if f xs
      go true e = omega arith
      go false e = omega arith

-- who is kept
pub in_kept : {A : Type 0} {f : A → Bool} {P : A → Type 0} → ((x : A) → Means (f x) (P x)) → (x : A) (xs : List A)
    → In x (keep f xs) ↔ (In x xs × P x)
in_kept {f} {P} m x xs =
    let e = in_made m (λ y. y) (keep f) refl (λ y ys. refl) x xs in (
      λ i. let s = e.0 i in (subst (λ z. In z xs) s.2.1 s.1, subst P s.2.1 s.2.0),
      λ h. e.1 (x, h.0, (h.1, refl)),
    )

pub in_keep : {A : Type 0} (f : A → Bool) (x : A) (xs : List A) → In x (keep f xs) ↔ (In x xs × (f x ≡ true))
in_keep f x xs = in_kept (λ y. itself (f y)) x xs

-- what is kept is no more than there was
pub length_keep : {A : Type 0} (f : A → Bool) (xs : List A) → length (keep f xs) ≤ length xs
length_keep f [] = omega arith
length_keep f (x ∷ xs) = go (f x) (length_keep f xs)
  where
    go : (t : Bool) → length (keep f xs) ≤ length xs → length (add_if t x (keep f xs)) ≤ suc (length xs)
    go true h = omega arith
    go false h = omega arith

module _ {A : Type 0} (f : A → Bool) where
  -- where none passes none is kept ..
  pub keep_none : (xs : List A) → Each (λ x. f x ≡ false) xs → keep f xs ≡ []
  keep_none [] h = refl
  keep_none (x ∷ xs) h = rw (h x (inl refl)) (keep_none xs (λ y i. h y (inr i)))

  -- .. and where each passes all are
  pub keep_all : (xs : List A) → Each (λ x. f x ≡ true) xs → keep f xs ≡ xs
  keep_all [] h = refl
  keep_all (x ∷ xs) h = rw (h x (inl refl)) (ap (λ ys. x ∷ ys) (keep_all xs (λ y i. h y (inr i))))

  -- a test that only those pass who passed the first keeps the same after it as alone
  pub keep_again : (g : A → Bool) (xs : List A) → Each (λ x. g x ≡ true → f x ≡ true) xs → keep g (keep f xs) ≡ keep g xs
  keep_again g [] h = refl
  keep_again g (x ∷ xs) h = go (f x) (h x (inl refl)) (keep_again g xs (λ y i. h y (inr i)))
    where
      go : (t : Bool) → (g x ≡ true → t ≡ true) → keep g (keep f xs) ≡ keep g xs → keep g (add_if t x (keep f xs)) ≡ add_if (g x) x (keep g xs)
      go true i e = ap (add_if (g x) x) e
      go false i e = rw ((denied (itself (g x))).test (λ p. never (i p))) e

-- some element is so, or none is
pub some_or_none : {A : Type 0} {f : A → Bool} {P : A → Type 0} → ((x : A) → Means (f x) (P x)) → (xs : List A)
    → Some P xs ⊎ Each (λ x. P x → ⊥) xs
some_or_none {f} m xs = ⊎_map (any_means m xs).fact (any_fails (λ x. denied (m x)) xs).fact (passes_or_fails (any f xs))

pub in_append : {A : Type 0} (x : A) (xs ys : List A) → In x (xs ++ ys) ↔ (In x xs ⊎ In x ys)
in_append x [] ys = (inr, ⊎_elim absurd (λ j. j))
in_append x (y ∷ xs) ys =
    let e = in_append x xs ys in (
      ⊎_elim (λ p. inl (inl p)) (λ i. ⊎_map inr (λ j. j) (e.0 i)),
      ⊎_elim (⊎_map (λ p. p) (λ i. e.1 (inl i))) (λ j. inr (e.1 (inr j))),
    )

-- what is so of each element of two lists is so of each of the two joined, and of each that a test leaves
pub each_append : {A : Type 0} {P : A → Type 0} (xs ys : List A) → Each P xs → Each P ys → Each P (xs ++ ys)
each_append xs ys h k x i = ⊎_elim (h x) (k x) ((in_append x xs ys).0 i)

module _ {A : Type 0} {P : A → Type 0} where
  pub each_only_if : (t : Bool) (xs : List A) → Each P xs → Each P (only_if t xs)
  each_only_if true xs h = h
  each_only_if false xs h = λ x i. absurd i

  pub each_add_if : (t : Bool) (x : A) (xs : List A) → P x → Each P xs → Each P (add_if t x xs)
  each_add_if true x xs p h = (each_cons x xs).1 (p, h)
  each_add_if false x xs p h = h

-- all pass of two lists joined exactly when all of each do
pub all_append : {A : Type 0} (f : A → Bool) (xs ys : List A) → all f (xs ++ ys) ≡ all f xs and all f ys
unfolding ◌and◌
all_append f [] ys = refl
all_append f (x ∷ xs) ys = go (f x) (all_append f xs ys)
  where
    go : (t : Bool) → all f (xs ++ ys) ≡ all f xs and all f ys → t and all f (xs ++ ys) ≡ (t and all f xs) and all f ys
    go true e = e
    go false e = refl

-- who stands in a list with x put somewhere in it, one place further on
in_later : {A : Type 0} (x y z : A) (ws zs : List A) → In y ws ↔ ((y ≡ x) ⊎ In y zs) → In y (z ∷ ws) ↔ ((y ≡ x) ⊎ In y (z ∷ zs))
in_later x y z ws zs e = (
  ⊎_elim (λ p. inr (inl p)) (λ i. ⊎_map (λ p. p) inr (e.0 i)),
  ⊎_elim (λ p. inr (e.1 (inl p))) (⊎_map (λ p. p) (λ i. e.1 (inr i))),
)

pub in_middle : {A : Type 0} (x y : A) (xs ys : List A) → In y (xs ++ x ∷ ys) ↔ ((y ≡ x) ⊎ In y (xs ++ ys))
in_middle x y [] ys = (λ i. i, λ i. i)
in_middle x y (z ∷ xs) ys = in_later x y z (xs ++ x ∷ ys) (xs ++ ys) (in_middle x y xs ys)

pub in_map : {A B : Type 0} (f : A → B) (y : B) (xs : List A) → In y (map f xs) ↔ Some (λ x. f x ≡ y) xs
in_map f y [] = (λ i. absurd i, λ s. s.1)
in_map f y (x ∷ xs) = (
  λ i. (some_cons x xs).1 (⊎_map sym (in_map f y xs).0 i),
  λ s. ⊎_map sym (in_map f y xs).1 ((some_cons x xs).0 s),
)

-- the first element of a list stands in it ..
pub first_in : {A : Type 0} (x : A) (xs : List A) → first_of xs ≡ some x → In x xs
first_in x [] e = let z : ◌≡◌ {A = ℕ} 0 1 = cc in absurd (omega arith)
first_in x (y ∷ ys) e = inl (cc)

-- .. and only a list with no element has none
pub first_none : {A : Type 0} (xs : List A) → (first_of xs ≡ none) ↔ Each (λ x. ⊥) xs
first_none [] = (λ e x i. i, λ h. refl)
first_none (y ∷ ys) = (λ e x i. let z : ◌≡◌ {A = ℕ} 0 1 = cc in omega arith, λ h. absurd (h y (inl refl)))

-- ---- places

-- X of a list with c elements before it means P there or X of the list after its first element. So X of a whole list means P at some place:
-- with j elements before it, for some j
module _ {A : Type 0} (X P : ℕ → List A → Type 0) (empty : (c : ℕ) → X c [] → ⊥) (nowhere : (c : ℕ) → P c [] → ⊥)
    (first_or_later : (c : ℕ) (x : A) (xs : List A) → X c (x ∷ xs) ↔ (P c (x ∷ xs) ⊎ X (suc c) xs)) where
  to_place : (c : ℕ) (xs : List A) → X c xs → (j : ℕ) × P (c + j) (drop j xs)
  to_place c [] h = absurd (empty c h)
  to_place c (x ∷ xs) h =
      ⊎_elim
      (λ p. (0, subst (λ k. P k (x ∷ xs)) (omega arith) p))
      (λ l. let s = to_place (suc c) xs l in (suc s.0, subst (λ k. P k (drop s.0 xs)) (omega arith) s.1))
      ((first_or_later c x xs).0 h)

  from_place : (c j : ℕ) (xs : List A) → P (c + j) (drop j xs) → X c xs
  from_place c j [] p = absurd (nowhere (c + j) (subst (P (c + j)) (drop-nil j) p))
  from_place c zero (x ∷ xs) p = (first_or_later c x xs).1 (inl (subst (λ k. P k (x ∷ xs)) (omega arith) p))
  from_place c (suc j) (x ∷ xs) p =
      (first_or_later c x xs).1 (inr (from_place (suc c) j xs (subst (λ k. P k (drop j xs)) (omega arith) p)))

  pub at_some_place : (xs : List A) → X 0 xs ↔ ((j : ℕ) × P j (drop j xs))
  at_some_place xs = (
    λ h. let s = to_place 0 xs h in (s.0, subst (λ k. P k (drop s.0 xs)) (omega arith) s.1),
    λ s. from_place 0 s.0 xs (subst (λ k. P k (drop s.0 xs)) (omega arith) s.1),
  )

-- what stands at a place stands in the list
pub in_at_place : {A : Type 0} (j : ℕ) (xs : List A) {x : A} {rest : List A} → drop j xs ≡ x ∷ rest → In x xs
in_at_place zero xs {x} at = subst (In x) (sym at) (inl refl)
in_at_place (suc j) [] {x} at = subst (In x) (sym at) (inl refl)
in_at_place (suc j) (y ∷ ys) at = inr (in_at_place j ys at)

module _ {A : Type 0} (j : ℕ) (xs : List A) {x : A} {rest : List A} (at : drop j xs ≡ x ∷ rest) where
  -- the place is within the list
  pub place_within : j < length xs
  place_within = omega (arith, length-drop j xs, ap length at)

  -- what follows it stands at the next place
  pub rest_follows : drop (suc j) xs ≡ rest
  rest_follows = rw (← add-one j, ← drop-drop 1 j xs, at)

  -- and it stands after those before it
  pub taken_next : take (suc j) xs ≡ take j xs ++ x ∷ []
  taken_next =
      let here : get_or xs j x ≡ x = cc (drop-cons xs j x place_within) in
      take-suc xs j x place_within ∙ ap (λ y. take j xs ++ y ∷ []) here

-- ---- a list made element by element, from a function of the index, for the m indexes from i up

module _ {A : Type 0} (f : ℕ → A) (made : ℕ → ℕ → List A) (empty : (i : ℕ) → made i zero ≡ []) (more : (i m : ℕ) → made i (suc m) ≡ f i ∷ made (suc i) m) where
  pub made_length : (i m : ℕ) → length (made i m) ≡ m
  made_length i zero = rw empty
  made_length i (suc m) = rw (more, made_length (suc i) m)

  pub made_at : (d : A) (i m t : ℕ) → t < m → get_or (made i m) t d ≡ f (i + t)
  made_at d i zero t l = absurd (omega arith)
  made_at d i (suc m) zero l = rw more (ap f (omega arith))
  made_at d i (suc m) (suc t) l = rw (more, made_at d (suc i) m t (omega arith)) (ap f (omega arith))

  -- from a place on
  pub made_here : (i m t : ℕ) → t < m → drop t (made i m) ≡ f (i + t) ∷ drop (suc t) (made i m)
  made_here i zero t l = absurd (omega arith)
  made_here i (suc m) zero l = rw (more, add-zero)
  made_here i (suc m) (suc t) l = let moved : i + suc t ≡ suc i + t = omega arith in rw (more, moved) (made_here (suc i) m t (omega arith))

-- ---- a run of stores

module _ {A : Type 0} where
  -- before the run and after it the elements stand as they did ..
  pub stored_before : (l vs : List A) (i j : ℕ) (d : A) → j < i → get_or (sets l i vs) j d ≡ get_or l j d
  stored_before l [] i j d h = refl
  stored_before l (v ∷ vs) i j d h = stored_before (set l i v) vs (suc i) j d (omega arith) ∙ get_or-set_other l i j v d (omega arith)

  pub stored_after : (l vs : List A) (i j : ℕ) (d : A) → i + length vs ≤ j → get_or (sets l i vs) j d ≡ get_or l j d
  stored_after l [] i j d h = refl
  stored_after l (v ∷ vs) i j d h = stored_after (set l i v) vs (suc i) j d (omega arith) ∙ get_or-set_other l i j v d (omega arith)

  -- .. and in it each stored element stands at its place
  pub stored_at : (l vs : List A) (i k : ℕ) (d : A) → i + length vs ≤ length l → k < length vs → get_or (sets l i vs) (i + k) d ≡ get_or vs k d
  stored_at l [] i k d h m = absurd (omega arith)
  stored_at l (v ∷ vs) i zero d h m =
      rw add-zero (stored_before (set l i v) vs (suc i) i d (omega arith) ∙ get_or-set_same l i v d (omega arith))
  stored_at l (v ∷ vs) i (suc k) d h m =
      let moved : i + suc k ≡ suc i + k = omega arith in
      rw moved (stored_at (set l i v) vs (suc i) k d (omega (arith, length-set l i v)) (omega arith))

-- ---- lanes

-- some lane is so, of the n lanes from lane i up
abbrev pub SomeLane : (ℕ → Type 0) → ℕ → ℕ → Type 0
SomeLane P i n = (j : ℕ) × (i ≤ j) × (j < i + n) × P j

-- each of them is so
abbrev pub EachLane : (ℕ → Type 0) → ℕ → ℕ → Type 0
EachLane P i n = (j : ℕ) → i ≤ j → j < i + n → P j

module _ {P : ℕ → Type 0} (i n : ℕ) where
  -- some lane is so: the lowest of them, or one of those above it
  pub some_lane_up : SomeLane P i (suc n) ↔ (P i ⊎ SomeLane P (suc i) n)
  some_lane_up = (
    λ s. ⊎_elim (λ e. inl (subst P (sym e) s.3)) (λ l. inr (s.0, l, omega arith, s.3)) (eq-or-lt_of_le s.1),
    ⊎_elim (λ p. (i, omega arith, omega arith, p)) (λ s. (s.0, omega arith, omega arith, s.3)),
  )

  each_lane_up : EachLane P i (suc n) ↔ (P i × EachLane P (suc i) n)
  each_lane_up = (
    λ h. (h i (omega arith) (omega arith), λ j a b. h j (omega arith) (omega arith)),
    λ h j a b. ⊎_elim (λ e. subst P e h.0) (λ l. h.1 j l (omega arith)) (eq-or-lt_of_le a),
  )

module _ {f : ℕ → Bool} {P : ℕ → Type 0} where
  pub lane_means : ((j : ℕ) → Means (f j) (P j)) → (i n : ℕ) → Means (some_lane f i n) (SomeLane P i n)
  lane_means m i zero = record { fact = never; test = λ s. absurd (omega arith) }
  lane_means m i (suc n) = reworded (or_means (m i) (lane_means m (suc i) n)) (some_lane_up i n).1 (some_lane_up i n).0

  pub lane_fails : ((j : ℕ) → Fails (f j) (P j)) → (i n : ℕ) → Fails (some_lane f i n) (EachLane P i n)
  lane_fails m i zero = record { fact = λ e j a b. absurd (omega arith); test = λ h. refl }
  lane_fails m i (suc n) = reworded (or_fails (m i) (lane_fails m (suc i) n)) (each_lane_up i n).1 (each_lane_up i n).0

-- the same with the test itself for the fact
module _ (f : ℕ → Bool) (i n : ℕ) where
  pub lane_some : some_lane f i n ≡ true → SomeLane (λ j. f j ≡ true) i n
  lane_some = (lane_means (λ j. itself (f j)) i n).fact

  pub some_lane_lem : (j : ℕ) → i ≤ j → j < i + n → f j ≡ true → some_lane f i n ≡ true
  some_lane_lem j a b p = (lane_means (λ k. itself (f k)) i n).test (j, a, b, p)

  pub lane_none : some_lane f i n ≡ false → EachLane (λ j. f j ≡ false) i n
  lane_none = (lane_fails (λ j. itself (f j)) i n).fact

  pub none_lane : EachLane (λ j. f j ≡ false) i n → some_lane f i n ≡ false
  none_lane = (lane_fails (λ j. itself (f j)) i n).test

-- ---- going through numbers, as lanes are gone through

module _ {f : ℕ → Bool} {P : ℕ → Type 0} where
  -- all pass exactly when each is so; what a test means need be known of the numbers gone through alone
  pub all_from_means : (i n : ℕ) → EachLane (λ j. Means (f j) (P j)) i n → Means (all_from f i n) (EachLane P i n)
  all_from_means i zero m = record { fact = λ e j a b. absurd (omega arith); test = λ h. refl }
  all_from_means i (suc n) m =
      let s = (each_lane_up i n).0 m in
      reworded (and_means s.0 (all_from_means (suc i) n s.1)) (each_lane_up i n).1 (each_lane_up i n).0

-- tests that agree at each of the numbers
pub all_from_same : {f g : ℕ → Bool} (i n : ℕ) → EachLane (λ j. f j ≡ g j) i n → all_from f i n ≡ all_from g i n
all_from_same i zero h = refl
all_from_same i (suc n) h = let s = (each_lane_up i n).0 h in ap₂ ◌and◌ s.0 (all_from_same (suc i) n s.1)

module _ (f : ℕ → Bool) where
  -- the last of them apart
  pub all_from_last : (i n : ℕ) → all_from f i (suc n) ≡ all_from f i n and f (i + n)
  unfolding ◌and◌
  all_from_last i zero = rw add-zero (and_true (f i))
  all_from_last i (suc n) = let moved : i + suc n ≡ suc i + n = omega arith in rw moved (go (f i) (all_from_last (suc i) n))
    where
      go : (t : Bool) → all_from f (suc i) (suc n) ≡ all_from f (suc i) n and f (suc i + n)
          → t and all_from f (suc i) (suc n) ≡ (t and all_from f (suc i) n) and f (suc i + n)
      go true e = e
      go false e = refl

  -- as a loop goes through those below n: stopped by one that fails, on after one that passes, and done past the last
  module _ (i n : ℕ) where
    pub all_stopped : i < n → f i ≡ false → all_from f i (n - i) ≡ false
    unfolding ◌and◌
    all_stopped l e = let more : n - i ≡ suc (n - suc i) = omega arith in rw (more, e)

    pub all_onward : i < n → f i ≡ true → all_from f i (n - i) ≡ all_from f (i + 1) (n - (i + 1))
    unfolding ◌and◌
    all_onward l e = let more : n - i ≡ suc (n - (i + 1)) = omega arith in rw (more, e, add-one)

    pub all_done : n ≤ i → all_from f i (n - i) ≡ true
    all_done l = let none : n - i ≡ 0 = omega arith in rw none

-- two lists have the same number at an index
abbrev pub same_at : List ℕ → List ℕ → ℕ → Bool
same_at xs ys i = eqb (get_or xs i 0) (get_or ys i 0)

-- a list gone through index by index against the first of another that is no shorter
pub same_at_each : (xs ys : List ℕ) → length xs ≤ length ys → all_from (same_at xs ys) 0 (length xs) ≡ same_numbers xs (take (length xs) ys)
same_at_each [] ys l = refl
same_at_each (x ∷ xs) [] l = absurd (omega arith)
same_at_each (x ∷ xs) (y ∷ ys) l = ap (λ t. eqb x y and t) (later 0 (length xs) ∙ same_at_each xs ys (omega arith))
  where
    later : (i n : ℕ) → all_from (same_at (x ∷ xs) (y ∷ ys)) (suc i) n ≡ all_from (same_at xs ys) i n
    later i zero = refl
    later i (suc n) = ap (λ t. same_at xs ys i and t) (later (suc i) n)

-- ---- ascending lists

module _ {A : Type 0} (number : A → ℕ) where
  -- the elements' numbers ascend strictly, the first at least c
  abbrev pub Ascends : ℕ → List A → Type 0
  Ascends c [] = Unit {0}
  Ascends c (x ∷ xs) = (c ≤ number x) × Ascends (suc (number x)) xs

  -- a lower bound serves too
  pub ascends_lower : (c d : ℕ) (xs : List A) → c ≤ d → Ascends d xs → Ascends c xs
  ascends_lower c d [] h a = tt
  ascends_lower c d (x ∷ xs) h a = (omega arith, a.1)

  -- no element is below the bound
  pub ascends_from : (c : ℕ) (xs : List A) → Ascends c xs → Each (λ x. c ≤ number x) xs
  ascends_from c [] a = λ x i. absurd i
  ascends_from c (x ∷ xs) a = (each_cons x xs).1 (a.0, ascends_from c xs (ascends_lower c (suc (number x)) xs (omega arith) a.1))

  -- no number stands twice ..
  pub ascends_once : (c : ℕ) (xs : List A) → Ascends c xs → (x y : A) → In x xs → In y xs → number x ≡ number y → x ≡ y
  ascends_once c [] a x y i j e = absurd i
  ascends_once c (z ∷ zs) a x y (inl p) (inl q) e = p ∙ sym q
  ascends_once c (z ∷ zs) a x y (inl p) (inr j) e = absurd (omega (arith, ap number p, ascends_from (suc (number z)) zs a.1 y j))
  ascends_once c (z ∷ zs) a x y (inr i) (inl q) e = absurd (omega (arith, ap number q, ascends_from (suc (number z)) zs a.1 x i))
  ascends_once c (z ∷ zs) a x y (inr i) (inr j) e = ascends_once (suc (number z)) zs a.1 x y i j e

  -- .. so that the list of the numbers is without repeats
  pub ascends_apart : (c : ℕ) (xs : List A) → Ascends c xs → Distinct (map number xs)
  ascends_apart c [] a = tt
  ascends_apart c (x ∷ xs) a = (
    λ i. let s = (in_map number (number x) xs).0 i in omega (arith, s.2, ascends_from (suc (number x)) xs a.1 s.0 s.1),
    ascends_apart (suc (number x)) xs a.1,
  )

  -- who is above the first stands after it
  above_first : (x y : A) (xs : List A) → number x < number y → In y (x ∷ xs) → In y xs
  above_first x y xs h (inl e) = absurd (omega (arith, ap number e))
  above_first x y xs h (inr i) = i

  -- two ascending lists with the same members are the same list
  pub ascends_by_members : (c : ℕ) (xs ys : List A) → Ascends c xs → Ascends c ys → ((x : A) → In x xs ↔ In x ys) → xs ≡ ys
  ascends_by_members c [] [] a b same = refl
  ascends_by_members c [] (y ∷ ys) a b same = absurd ((same y).1 (inl refl))
  ascends_by_members c (x ∷ xs) [] a b same = absurd ((same x).0 (inl refl))
  ascends_by_members c (x ∷ xs) (y ∷ ys) a b same =
      let x_in = (same x).0 (inl refl) in
      let y_least = ascends_from (number y) (y ∷ ys) (omega arith, b.1) x x_in in
      let x_least = ascends_from (number x) (x ∷ xs) (omega arith, a.1) y ((same y).1 (inl refl)) in
      let first : x ≡ y = ascends_once c (y ∷ ys) b x y x_in (inl refl) (omega arith) in
      let number_first = ap number first in
      let b' = subst (λ z. Ascends (suc (number z)) ys) (sym first) b.1 in
      let others = ascends_by_members (suc (number x)) xs ys a.1 b' (λ z. (
        λ i. above_first y z ys (omega (arith, ascends_from (suc (number x)) xs a.1 z i)) ((same z).0 (inr i)),
        λ i. above_first x z xs (ascends_from (suc (number x)) ys b' z i) ((same z).1 (inr i)),
      )) in
      λ i. first i ∷ others i

  pub ascends_keep : (f : A → Bool) (c : ℕ) (xs : List A) → Ascends c xs → Ascends c (keep f xs)
  ascends_keep f c [] a = tt
  ascends_keep f c (x ∷ xs) a = go (f x) (ascends_keep f (suc (number x)) xs a.1)
    where
      go : (t : Bool) → Ascends (suc (number x)) (keep f xs) → Ascends c (add_if t x (keep f xs))
      go true b = (a.0, b)
      go false b = ascends_lower c (suc (number x)) (keep f xs) (omega arith) b

  -- those above the first element are the others
  pub keep_above_first : (c : ℕ) (x : A) (xs : List A) → Ascends c (x ∷ xs) → keep (λ y. ltb (number x) (number y)) (x ∷ xs) ≡ xs
  keep_above_first c x xs a =
      rw (le-ltb (number x) (number x) (omega arith))
      (keep_all (λ y. ltb (number x) (number y)) xs (λ y i. lt-ltb (number x) (number y) (ascends_from (suc (number x)) xs a.1 y i)))

  -- a test that one number alone passes keeps one element
  pub keep_one : (f : A → Bool) (c : ℕ) (xs : List A) → Ascends c xs → (x : A) → In x xs → f x ≡ true
      → Each (λ y. f y ≡ true → number y ≡ number x) xs → keep f xs ≡ x ∷ []
  keep_one f c [] a x i p h = absurd i
  keep_one f c (z ∷ zs) a x (inl e) p h =
      let later = ascends_from (suc (number z)) zs a.1 in
      let none = keep_none f zs (λ y j. (denied (itself (f y))).test (λ q. absurd (omega (arith, ap number e, h y (inr j) q, later y j)))) in
      rw (ap f (sym e) ∙ p) (ap₂ (λ (y : A) (ys : List A). y ∷ ys) (sym e) none)
  keep_one f c (z ∷ zs) a x (inr i) p h =
      let later = ascends_from (suc (number z)) zs a.1 x i in
      rw ((denied (itself (f z))).test (λ q. absurd (omega (arith, h z (inl refl) q, later))))
      (keep_one f (suc (number z)) zs a.1 x i p (λ y j. h y (inr j)))

  -- the first element of an ascending list is its least
  pub first_least : (c : ℕ) (xs : List A) → Ascends c xs → (y : A)
      → (first_of xs ≡ some y) ↔ (In y xs × Each (λ x. number y ≤ number x) xs)
  first_least c [] a y = (λ e. absurd (first_in y [] e), λ h. absurd h.0)
  first_least c (x ∷ xs) a y = (
    λ e. let p : y ≡ x = cc in
        (inl p, (each_cons x xs).1 (omega (arith, ap number p), λ z i. omega (arith, ap number p, ascends_from (suc (number x)) xs a.1 z i))),
    λ h. ⊎_elim
        (λ p. ap some (sym p))
        (λ i. absurd (omega (arith, ascends_from (suc (number x)) xs a.1 y i, h.1 x (inl refl))))
        h.0,
  )

  pub in_placed : (x y : A) (xs : List A) → In y (placed number x xs) ↔ ((y ≡ x) ⊎ In y xs)
  in_placed x y [] = (λ i. i, λ i. i)
  in_placed x y (z ∷ zs) = go (ltb (number x) (number z)) (in_placed x y zs)
    where
      go : (t : Bool) → In y (placed number x zs) ↔ ((y ≡ x) ⊎ In y zs)
          → In y (cond t (x ∷ z ∷ zs) (z ∷ placed number x zs)) ↔ ((y ≡ x) ⊎ In y (z ∷ zs))
      go true e = (λ i. i, λ i. i)
      go false e = in_later x y z (placed number x zs) zs e

  -- a new number placed keeps the list ascending
  pub placed_ascends : (x : A) (c : ℕ) (xs : List A) → c ≤ number x → Each (λ y. number y ≡ number x → ⊥) xs → Ascends c xs
      → Ascends c (placed number x xs)
  placed_ascends x c [] l h a = (l, tt)
  placed_ascends x c (y ∷ ys) l h a = go (ltb (number x) (number y)) refl (placed_ascends x (suc (number y)) ys)
    where
      go : (t : Bool) → ltb (number x) (number y) ≡ t
          → (suc (number y) ≤ number x → Each (λ z. number z ≡ number x → ⊥) ys → Ascends (suc (number y)) ys
          → Ascends (suc (number y)) (placed number x ys))
          → Ascends c (cond t (x ∷ y ∷ ys) (y ∷ placed number x ys))
      go true e ih = (l, (ltb-true (number x) (number y) e, a.1))
      go false e ih = let off = h y (inl refl) in (a.0, ih (omega (arith, ltb-false (number x) (number y) e)) (λ z i. h z (inr i)) a.1)

  -- who is below all others is placed first
  pub placed_first : (x : A) (xs : List A) → Ascends (suc (number x)) xs → placed number x xs ≡ x ∷ xs
  placed_first x [] a = refl
  placed_first x (y ∷ ys) a = rw (lt-ltb (number x) (number y) a.0)

  -- who is placed and fails a test is not kept
  pub keep_placed : (f : A → Bool) (x : A) → f x ≡ false → (xs : List A) → keep f (placed number x xs) ≡ keep f xs
  keep_placed f x e [] = rw e
  keep_placed f x e (y ∷ ys) = go (ltb (number x) (number y)) (keep_placed f x e ys)
    where
      go : (t : Bool) → keep f (placed number x ys) ≡ keep f ys → keep f (cond t (x ∷ y ∷ ys) (y ∷ placed number x ys)) ≡ keep f (y ∷ ys)
      go true ih = rw e
      go false ih = ap (add_if (f y) y) ih

  -- who is placed is one more
  pub length_placed : (x : A) (xs : List A) → length (placed number x xs) ≡ suc (length xs)
  length_placed x [] = refl
  length_placed x (y ∷ ys) = go (ltb (number x) (number y)) (length_placed x ys)
    where
      go : (t : Bool) → length (placed number x ys) ≡ suc (length ys)
          → length (cond t (x ∷ y ∷ ys) (y ∷ placed number x ys)) ≡ suc (suc (length ys))
      go true e = refl
      go false e = ap suc e

-- Laws of sums and counts over lists and lanes: sums of equals, split sums, bounds of sums, sums taken in the other order; when a count is 0 or 1;
-- how many there are of those that each go with one of others.
-- Assumes nothing.
use Prim.Native.Nat.{ℕ, zero, suc, ◌+◌, ◌-◌, ◌*◌, ◌≤◌}
use mathlib.Core.Path.{◌≡◌, refl, sym, ◌∙◌, ap}
use mathlib.Core.Bool.{Bool, true, false, not}
use mathlib.Core.Logic.{◌↔◌, inl, inr, ⊎_elim}
use mathlib.Core.List.{List, [], ◌∷◌, ◌++◌}
use native.Mathlib.Omega.{arith}
use lib.Dec.{eqb}
use lib.ListN.{length}
use borrow.Author.Tests.{eq-eqb}
use Rattle.rules.specs.Connectives.{◌and◌, ◌or◌, one_if}
use Rattle.rules.specs.Lists.{any, keep, count_if, sum_of, some_lane, sum_lanes}
use Rattle.rules.proofs.Means.{Means, never, reworded, itself, passes_or_fails, eq_means}
use Rattle.rules.proofs.Lists.{In, Each, EachLane, Distinct, find_means, length_made, length_keep, Ascends, ascends_from}

-- ---- tests as numbers

pub at_most_one : (t : Bool) → one_if t ≤ 1
at_most_one true = omega arith
at_most_one false = omega arith

split_one : (s t : Bool) → one_if s ≡ one_if (s and t) + one_if (s and not t)
unfolding ◌and◌
split_one true true = refl
split_one true false = refl
split_one false t = refl

here_or_higher : (s t : Bool) → one_if (s and not t) + one_if t ≡ one_if (s or t)
unfolding ◌and◌ ◌or◌
here_or_higher true true = refl
here_or_higher true false = refl
here_or_higher false t = omega arith

pub either_and_both : (s t : Bool) → one_if (s or t) + one_if (s and t) ≡ one_if s + one_if t
unfolding ◌and◌ ◌or◌
either_and_both true true = refl
either_and_both true false = refl
either_and_both false true = refl
either_and_both false false = refl

-- ---- sums over a list

module _ {A : Type 0} where
  -- equal numbers of each element make equal sums
  pub sum_same : {f g : A → ℕ} (xs : List A) → Each (λ x. f x ≡ g x) xs → sum_of f xs ≡ sum_of g xs
  sum_same [] h = refl
  sum_same (x ∷ xs) h = omega (arith, h x (inl refl), sum_same xs (λ y i. h y (inr i)))

  -- a sum of zeros is 0
  pub sum_zero : (xs : List A) → sum_of (λ x. 0) xs ≡ 0
  sum_zero [] = refl
  sum_zero (x ∷ xs) = omega (arith, sum_zero xs)

  -- the sum of two numbers of each element is the sum of their two sums
  pub sum_plus : (f g : A → ℕ) (xs : List A) → sum_of (λ x. f x + g x) xs ≡ sum_of f xs + sum_of g xs
  sum_plus f g [] = refl
  sum_plus f g (x ∷ xs) = omega (arith, sum_plus f g xs)

  -- the sum over a list joined of two is the sum of the sums over the two
  pub sum_append : (f : A → ℕ) (xs ys : List A) → sum_of f (xs ++ ys) ≡ sum_of f xs + sum_of f ys
  sum_append f [] ys = omega arith
  sum_append f (x ∷ xs) ys = omega (arith, sum_append f xs ys)

  -- a sum is at most m for each element where each number is ..
  pub sum_at_most : (f : A → ℕ) (m : ℕ) (xs : List A) → Each (λ x. f x ≤ m) xs → sum_of f xs ≤ m * length xs
  sum_at_most f m [] h = omega arith
  sum_at_most f m (x ∷ xs) h = omega (arith, h x (inl refl), sum_at_most f m xs (λ y i. h y (inr i)))

  -- .. and at least one for each where each number is
  pub sum_at_least : (f : A → ℕ) (xs : List A) → Each (λ x. 1 ≤ f x) xs → length xs ≤ sum_of f xs
  sum_at_least f [] h = omega arith
  sum_at_least f (x ∷ xs) h = omega (arith, h x (inl refl), sum_at_least f xs (λ y i. h y (inr i)))

-- sums over two lists may be taken in either order
pub sum_by_rows_or_columns : {A B : Type 0} (f : A → B → ℕ) (xs : List A) (ys : List B)
    → sum_of (λ x. sum_of (f x) ys) xs ≡ sum_of (λ y. sum_of (λ x. f x y) xs) ys
sum_by_rows_or_columns f [] ys = sym (sum_zero ys)
sum_by_rows_or_columns f (x ∷ xs) ys = omega (arith, sum_by_rows_or_columns f xs ys, sum_plus (f x) (λ y. sum_of (λ z. f z y) xs) ys)

-- ---- counts in a list

module _ {A : Type 0} where
  -- counting is summing ones
  pub count_sum : (f : A → Bool) (xs : List A) → count_if f xs ≡ sum_of (λ x. one_if (f x)) xs
  count_sum f [] = refl
  count_sum f (x ∷ xs) = rw (count_sum f xs)

  -- no more pass than there are
  pub count_no_more : (f : A → Bool) (xs : List A) → count_if f xs ≤ length xs
  count_no_more f xs = omega (arith, length_made (λ x. itself (f x)) (λ x. x) (keep f) refl (λ x xs. refl) xs, length_keep f xs)

  -- tests equal at each element count the same
  pub count_same : {f g : A → Bool} (xs : List A) → Each (λ x. f x ≡ g x) xs → count_if f xs ≡ count_if g xs
  count_same [] h = refl
  count_same (x ∷ xs) h = rw (h x (inl refl), count_same xs (λ y i. h y (inr i)))

  -- where none passes the count is 0
  pub count_none : {f : A → Bool} (xs : List A) → Each (λ x. f x ≡ false) xs → count_if f xs ≡ 0
  count_none [] h = refl
  count_none (x ∷ xs) h = rw (h x (inl refl), count_none xs (λ y i. h y (inr i)))

  -- the count in a list joined of two is the sum of the counts in the two
  pub count_append : (f : A → Bool) (xs ys : List A) → count_if f (xs ++ ys) ≡ count_if f xs + count_if f ys
  count_append f [] ys = omega arith
  count_append f (x ∷ xs) ys = omega (arith, count_append f xs ys)

  -- those that pass are those that pass a second test too and those that fail it
  pub count_split : (f g : A → Bool) (xs : List A) → count_if f xs ≡ count_if (λ x. f x and g x) xs + count_if (λ x. f x and not (g x)) xs
  count_split f g [] = refl
  count_split f g (x ∷ xs) = omega (arith, split_one (f x) (g x), count_split f g xs)

  -- those that pass one of two tests are at most those that pass the first and those that pass the second
  pub count_either : (f g : A → Bool) (xs : List A) → count_if (λ x. f x or g x) xs ≤ count_if f xs + count_if g xs
  count_either f g [] = omega arith
  count_either f g (x ∷ xs) = omega (arith, either_and_both (f x) (g x), count_either f g xs)

  -- where at most one passes, the count is 1 if one passes, else 0
  pub count_one : (number : A → ℕ) (f : A → Bool) (c : ℕ) (xs : List A) → Ascends number c xs
      → ((x y : A) → In x xs → In y xs → f x ≡ true → f y ≡ true → number x ≡ number y) → count_if f xs ≡ one_if (any f xs)
  unfolding ◌or◌
  count_one number f c [] a h = refl
  count_one number f c (x ∷ xs) a h =
      go (f x) refl (count_one number f (suc (number x)) xs a.1 (λ y z i j. h y z (inr i) (inr j)))
    where
      none_later : f x ≡ true → Each (λ y. f y ≡ false) xs
      none_later p y i =
          ⊎_elim
          (λ q. absurd (omega (arith, h x y (inl refl) (inr i) p q, ascends_from number (suc (number x)) xs a.1 y i)))
          (λ e. e)
          (passes_or_fails (f y))

      go : (t : Bool) → f x ≡ t → count_if f xs ≡ one_if (any f xs) → one_if t + count_if f xs ≡ one_if (t or any f xs)
      go true p e = rw (count_none xs (none_later p))
      go false p e = omega arith

-- some element passes exactly when the count is not 0
pub counted_means : {A : Type 0} (f : A → Bool) (xs : List A) → Means (any f xs) (1 ≤ count_if f xs)
unfolding ◌or◌
counted_means f [] = record { fact = never; test = λ l. absurd (omega arith) }
counted_means f (x ∷ xs) = go (f x) (counted_means f xs)
  where
    go : (t : Bool) → Means (any f xs) (1 ≤ count_if f xs) → Means (t or any f xs) (1 ≤ one_if t + count_if f xs)
    go true m = record { fact = λ h. omega arith; test = λ l. refl }
    go false m = reworded m (λ l. omega arith) (λ l. omega arith)

-- a number stands where it is counted
pub in_counted : (n : ℕ) (xs : List ℕ) → In n xs ↔ (1 ≤ count_if (λ m. eqb m n) xs)
in_counted n xs =
    let f = find_means (λ m. eq_means m n) xs in
    let c = counted_means (λ m. eqb m n) xs in
    (λ i. c.fact (f.test i), λ l. f.fact (c.test l))

-- numbers of which none is counted twice are without repeats
pub distinct_by_counts : (xs : List ℕ) → ((n : ℕ) → count_if (λ m. eqb m n) xs ≤ 1) → Distinct xs
distinct_by_counts [] h = tt
distinct_by_counts (x ∷ xs) h = (
  λ i. omega (arith, h x, ap one_if (eq-eqb x x refl), (in_counted x xs).0 i),
  distinct_by_counts xs (λ n. omega (arith, h n)),
)

-- counting counts all where all pass
pub count_all : {A : Type 0} (xs : List A) → count_if (λ x. true) xs ≡ length xs
count_all [] = refl
count_all (x ∷ xs) = omega (arith, count_all xs)

-- counts over two lists may be taken in either order
pub count_by_rows_or_columns : {A B : Type 0} (f : A → B → Bool) (xs : List A) (ys : List B)
    → sum_of (λ x. count_if (f x) ys) xs ≡ sum_of (λ y. count_if (λ x. f x y) xs) ys
count_by_rows_or_columns f xs ys =
    sum_same xs (λ x i. count_sum (f x) ys)
    ∙ sum_by_rows_or_columns (λ x y. one_if (f x y)) xs ys
    ∙ sum_same ys (λ y i. sym (count_sum (λ x. f x y) xs))

-- where each of the xs goes with one of the ys at least, and each of the ys with m of the xs at most, there are at most m xs for each of the ys
pub at_most_for_each : {A B : Type 0} (f : A → B → Bool) (m : ℕ) (xs : List A) (ys : List B) → Each (λ x. any (f x) ys ≡ true) xs
    → Each (λ y. count_if (λ x. f x y) xs ≤ m) ys → length xs ≤ m * length ys
at_most_for_each f m xs ys one few =
    omega (
      arith,
      sum_at_least (λ x. count_if (f x) ys) xs (λ x i. (counted_means (f x) ys).fact (one x i)),
      count_by_rows_or_columns f xs ys,
      sum_at_most (λ y. count_if (λ x. f x y) xs) m ys few,
    )

-- ---- sums over lanes

-- equal numbers of each lane make equal sums
pub lanes_same : {f g : ℕ → ℕ} (i m : ℕ) → EachLane (λ j. f j ≡ g j) i m → sum_lanes f i m ≡ sum_lanes g i m
lanes_same i zero h = refl
lanes_same i (suc m) h =
    omega (arith, h i (omega arith) (omega arith), lanes_same (suc i) m (λ j l u. h j (omega arith) (omega arith)))

-- sums over a list and over lanes may be taken in either order
pub sum_by_lanes : {A : Type 0} (f : A → ℕ → ℕ) (xs : List A) (i m : ℕ)
    → sum_of (λ x. sum_lanes (f x) i m) xs ≡ sum_lanes (λ j. sum_of (λ x. f x j) xs) i m
sum_by_lanes f xs i zero = sum_zero xs
sum_by_lanes f xs i (suc m) = omega (arith, sum_plus (λ x. f x i) (λ x. sum_lanes (f x) (suc i) m) xs, sum_by_lanes f xs (suc i) m)

-- how many lanes pass with none higher that passes: 1 where some lane passes, else 0
pub highest_once : (f : ℕ → Bool) (n i m : ℕ) → i + m ≡ n
    → sum_lanes (λ j. one_if (f j and not (some_lane f (suc j) (n - suc j)))) i m ≡ one_if (some_lane f i m)
highest_once f n i zero e = refl
highest_once f n i (suc m) e =
    let r : n - suc i ≡ m = omega arith in rw (r, highest_once f n (suc i) m (omega arith)) (here_or_higher (f i) (some_lane f (suc i) m))

-- Tests and counts over lists, numbers and lanes, from which the rules are worded. They know nothing of the hall.
-- Assumes nothing.
use Rattle.std.specs.Prelude.{ℕ, zero, suc, ◌+◌, Bool, true, false, not, cond, List, [], ◌∷◌, leb, ltb, eqb}
use Rattle.std.proofs.Math.Option.{Option, none, some}
use Rattle.rules.specs.Connectives.{◌and◌, ◌or◌, one_if}

module _ {A : Type 0} where
  -- the list, or nothing where the test fails
  abbrev pub only_if : Bool → List A → List A
  only_if true xs = xs
  only_if false xs = []

  -- x before xs where the test holds
  abbrev pub add_if : Bool → A → List A → List A
  add_if true x xs = x ∷ xs
  add_if false x xs = xs

  -- some element passes
  abbrev pub any : (A → Bool) → List A → Bool
  any f [] = false
  any f (x ∷ xs) = f x or any f xs

  -- each element passes
  abbrev pub all : (A → Bool) → List A → Bool
  all f [] = true
  all f (x ∷ xs) = f x and all f xs

  -- those that pass, in their order
  abbrev pub keep : (A → Bool) → List A → List A
  keep f [] = []
  keep f (x ∷ xs) = add_if (f x) x (keep f xs)

  -- the first element, where there is one
  abbrev pub first_of : List A → Option A
  first_of [] = none
  first_of (x ∷ xs) = some x

  -- x among the others in the order of their numbers, before the first that is above it
  abbrev pub placed : (A → ℕ) → A → List A → List A
  placed number x [] = x ∷ []
  placed number x (y ∷ ys) = cond (ltb (number x) (number y)) (x ∷ y ∷ ys) (y ∷ placed number x ys)

  -- how many pass
  abbrev pub count_if : (A → Bool) → List A → ℕ
  count_if f [] = 0
  count_if f (x ∷ xs) = one_if (f x) + count_if f xs

  -- the sum of a number taken of each element
  abbrev pub sum_of : (A → ℕ) → List A → ℕ
  sum_of f [] = 0
  sum_of f (x ∷ xs) = f x + sum_of f xs

module _ {A : Type 0} where
  -- the places of those that fail, counted from `place` on
  abbrev pub failed_from : (A → Bool) → ℕ → List A → List ℕ
  failed_from f place [] = []
  failed_from f place (x ∷ xs) = add_if (not (f x)) place (failed_from f (suc place) xs)

-- the number stands in the list
abbrev pub member : ℕ → List ℕ → Bool
member n xs = any (eqb n) xs

-- two lists have the same numbers at the same places
abbrev pub same_numbers : List ℕ → List ℕ → Bool
same_numbers [] [] = true
same_numbers [] (y ∷ ys) = false
same_numbers (x ∷ xs) [] = false
same_numbers (x ∷ xs) (y ∷ ys) = eqb x y and same_numbers xs ys

-- no number stands twice in the list
abbrev pub distinct : List ℕ → Bool
distinct [] = true
distinct (x ∷ xs) = not (member x xs) and distinct xs

-- the numbers ascend, none below c; neighbours may be the same number
abbrev pub ascend_from : ℕ → List ℕ → Bool
ascend_from c [] = true
ascend_from c (x ∷ xs) = leb c x and ascend_from x xs

-- how many of the m numbers from a on pass
abbrev pub count_from : (ℕ → Bool) → ℕ → ℕ → ℕ
count_from f a zero = 0
count_from f a (suc m) = one_if (f a) + count_from f (suc a) m

-- some lane passes, of the m lanes from lane i up
abbrev pub some_lane : (ℕ → Bool) → ℕ → ℕ → Bool
some_lane f i zero = false
some_lane f i (suc m) = f i or some_lane f (suc i) m

-- the sum of a number taken of each of the m lanes from lane i up
abbrev pub sum_lanes : (ℕ → ℕ) → ℕ → ℕ → ℕ
sum_lanes f i zero = 0
sum_lanes f i (suc m) = f i + sum_lanes f (suc i) m

-- each of the m numbers from a on passes
abbrev pub all_from : (ℕ → Bool) → ℕ → ℕ → Bool
all_from f a zero = true
all_from f a (suc m) = f a and all_from f (suc a) m

-- "The hall line": keys, whose they are and what a band holds, to and from plain arithmetic.
-- Each triple in range has its own key and each key on the line its own triple and its own machine;
-- a band holds a whole key exactly when some key is held by it; a machine's band holds only that machine's keys.
-- Assumes nothing.
use Prim.Native.Nat.{ℕ, ◌+◌, ◌*◌, ◌/◌, ◌%◌, ◌≤◌, ◌<◌}
use mathlib.Core.Path.{◌≡◌, refl, ◌∙◌}
use mathlib.Core.Bool.{true, false}
use mathlib.Core.Logic.{◌⊎◌, inl, inr, ⊎_elim}
use native.Mathlib.Omega.{arith}
use native.Mathlib.Nat.{eq-or-lt_of_le}
use lib.Dec.{eqb}
use Rattle.rules.specs.HallLine.{machines, sensors, readings, highest_key, keys_per_machine, parts_in_range, key_of, first_key, own_key, Band, past_low, before_high, holds, first_past, holds_whole_key, is_machine, within_scope}
use Rattle.rules.proofs.Means.{Means, same_means, passes_or_fails, itself, and_means, and3_means, or_means, lt_means, le_means, eq_means, not_means, lt_fails}

pub parts_in_range_means : (m s r : ℕ) → Means (parts_in_range m s r) ((m < machines) × (s < sensors) × (r < readings))
unfolding parts_in_range
parts_in_range_means m s r = and3_means (lt_means m machines) (lt_means s sensors) (lt_means r readings)

-- the key is among the machine's own
abbrev pub Own : ℕ → ℕ → Type 0
Own m k = (m * keys_per_machine ≤ k) × (k < (m + 1) * keys_per_machine)

pub own_key_means : (m k : ℕ) → Means (own_key m k) (Own m k)
unfolding own_key first_key
own_key_means m k = and_means (le_means (m * keys_per_machine) k) (lt_means k ((m + 1) * keys_per_machine))

module _ (m s r : ℕ) (h : parts_in_range m s r ≡ true) where
  pub key_on_line : key_of m s r ≤ highest_key
  unfolding key_of
  key_on_line = let f = (parts_in_range_means m s r).fact h in omega arith

  pub key_is_its_machines : own_key m (key_of m s r) ≡ true
  unfolding key_of
  key_is_its_machines = let f = (parts_in_range_means m s r).fact h in (own_key_means m _).test (omega arith)

  pub key_one_to_one : (m' s' r' : ℕ) → parts_in_range m' s' r' ≡ true → key_of m s r ≡ key_of m' s' r' → (m ≡ m') × (s ≡ s') × (r ≡ r')
  unfolding key_of
  key_one_to_one m' s' r' h' e =
      let f = (parts_in_range_means m s r).fact h in
      let f' = (parts_in_range_means m' s' r').fact h' in
      omega arith

pub every_key : (k : ℕ) → k ≤ highest_key → (m : ℕ) × (s : ℕ) × (r : ℕ) × (parts_in_range m s r ≡ true) × (key_of m s r ≡ k)
unfolding key_of
every_key k h = (
  k / keys_per_machine,
  k % keys_per_machine / readings,
  k % readings,
  (parts_in_range_means (k / keys_per_machine) (k % keys_per_machine / readings) (k % readings)).test (omega arith),
  omega arith,
)

-- a machine's first key is that of its sensor 0 and reading 0
pub first_key_lem : (m : ℕ) → first_key m ≡ key_of m 0 0
unfolding first_key key_of
first_key_lem m = omega arith

pub bench_key : key_of 2 3 5 ≡ 68613
unfolding key_of
bench_key = refl

-- every key on the line is a machine's own ..
pub some_machine : (k : ℕ) → k ≤ highest_key → (m : ℕ) × (m < machines) × (own_key m k ≡ true)
some_machine k h = (k / keys_per_machine, omega arith, (own_key_means (k / keys_per_machine) k).test (omega arith))

-- .. and no other's
pub one_machine : (m n k : ℕ) → own_key m k ≡ true → own_key n k ≡ true → m ≡ n
one_machine m n k p q = let f = (own_key_means m k).fact p in let g = (own_key_means n k).fact q in omega arith

-- whose key it is, by division
pub own_by_division : (machine k : ℕ) → eqb (k / keys_per_machine) machine ≡ own_key machine k
own_by_division machine k =
    same_means (eq_means (k / keys_per_machine) machine) (own_key_means machine k) (λ same. omega arith) (λ own. omega arith)

-- the key is above the low end, or equal to a closed low end
abbrev pub Past : Band → ℕ → Type 0
Past b k = (b.low < k) ⊎ ((k ≡ b.low) × (b.low_closed ≡ true))

-- the key is below the high end, or equal to a closed high end
abbrev pub Before : Band → ℕ → Type 0
Before b k = (k < b.high) ⊎ ((k ≡ b.high) × (b.high_closed ≡ true))

module _ (b : Band) (k : ℕ) where
  pub past_low_means : Means (past_low b k) (Past b k)
  unfolding past_low
  past_low_means = or_means (lt_means b.low k) (and_means (eq_means k b.low) (itself b.low_closed))

  pub before_high_means : Means (before_high b k) (Before b k)
  unfolding before_high
  before_high_means = or_means (lt_means k b.high) (and_means (eq_means k b.high) (itself b.high_closed))

  pub holds_means : Means (holds b k) (Past b k × Before b k)
  unfolding holds
  holds_means = and_means past_low_means before_high_means

  -- a held key lies between the ends, so it is on the line where the ends are
  pub held_between : holds b k ≡ true → (b.low ≤ k) × (k ≤ b.high)
  held_between h =
      let f = holds_means.fact h in
      (⊎_elim (λ l. omega arith) (λ e. omega arith) f.0, ⊎_elim (λ l. omega arith) (λ e. omega arith) f.1)

module _ (b : Band) where
  closed_first : b.low_closed ≡ true → first_past b ≡ b.low
  unfolding first_past
  closed_first e = rw e

  open_first : b.low_closed ≡ false → first_past b ≡ b.low + 1
  unfolding first_past
  open_first e = rw e

  -- the first key past the low end is past it ..
  pub first_past_low : Past b (first_past b)
  first_past_low =
      ⊎_elim (λ e. inr (closed_first e, e)) (λ e. inl (omega (arith, open_first e))) (passes_or_fails b.low_closed)

  -- .. and no key past the low end is lower
  pub first_past_least : (k : ℕ) → Past b k → first_past b ≤ k
  first_past_least k (inl l) =
      ⊎_elim (λ e. omega (arith, closed_first e)) (λ e. omega (arith, open_first e)) (passes_or_fails b.low_closed)
  first_past_least k (inr h) = omega (arith, closed_first h.1)

  -- what is not above a key before the high end is before it too
  pub before_high_below : (j k : ℕ) → j ≤ k → Before b k → Before b j
  before_high_below j k l (inl h) = inl (omega arith)
  before_high_below j k l (inr h) = ⊎_elim (λ e. inr (e ∙ h.0, h.1)) (λ m. inl (omega arith)) (eq-or-lt_of_le l)

  -- a band holds a whole key exactly when some key is held by it
  pub holds_whole_key_means : Means (holds_whole_key b) ((k : ℕ) × (holds b k ≡ true))
  unfolding holds_whole_key
  holds_whole_key_means = record { fact = λ h. (first_past b, h); test = λ s. held s.0 ((holds_means b s.0).fact s.1) }
    where
      held : (k : ℕ) → Past b k × Before b k → holds b (first_past b) ≡ true
      held k h = (holds_means b (first_past b)).test (first_past_low, before_high_below (first_past b) k (first_past_least k h.0) h.1)

  pub within_scope_means : Means (within_scope b) ((machines ≤ b.scope) ⊎ (Own b.scope b.low × Own b.scope b.high))
  unfolding within_scope is_machine
  within_scope_means =
      or_means (not_means (lt_fails b.scope machines)) (and_means (own_key_means b.scope b.low) (own_key_means b.scope b.high))

  -- a machine's band holds only that machine's keys
  pub scope_keeps : b.scope < machines → within_scope b ≡ true → (k : ℕ) → holds b k ≡ true → own_key b.scope k ≡ true
  scope_keeps l w k h =
      let f = held_between b k h in
      (own_key_means b.scope k).test (⊎_elim (λ e. absurd (omega arith)) (λ o. omega arith) (within_scope_means.fact w))

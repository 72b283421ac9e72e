-- "1,023 is an unplugged cable": which keys are an open line's, in plain arithmetic, and by machine, sensor and reading. A key that is not open has a
-- reading below 1,023.
-- Assumes nothing.
use Prim.Native.Nat.{ℕ, ◌<◌}
use mathlib.Core.Path.{◌≡◌}
use mathlib.Core.Bool.{true}
use mathlib.Core.Logic.{◌↔◌, ◌⊎◌, inl, inr, ⊎_elim}
use native.Mathlib.Omega.{arith}
use Rattle.rules.specs.HallLine.{parts_in_range, key_of}
use Rattle.rules.specs.OpenLine.{open_reading, reading_in, is_open}
use Rattle.rules.proofs.Means.{Means, Fails, passes_or_fails, reworded, denied, eq_means}
use Rattle.rules.proofs.HallLine.{parts_in_range_means}

-- its reading is 1,023: an unplugged cable's
abbrev pub Open : ℕ → Type 0
Open k = reading_in k ≡ open_reading

-- its reading is below 1,023: a step's
abbrev pub Plugged : ℕ → Type 0
Plugged k = reading_in k < open_reading

pub is_open_means : (k : ℕ) → Means (is_open k) (Open k)
unfolding is_open
is_open_means k = eq_means (reading_in k) open_reading

-- a key that is not open has a reading below 1,023, for no reading is above it
pub is_open_fails : (k : ℕ) → Fails (is_open k) (Plugged k)
is_open_fails k = reworded (denied (is_open_means k)) (λ off. omega arith) (λ plugged last. omega arith)

pub plugged_or_open : (k : ℕ) → Plugged k ⊎ Open k
plugged_or_open k = ⊎_elim (λ o. inr ((is_open_means k).fact o)) (λ p. inl ((is_open_fails k).fact p)) (passes_or_fails (is_open k))

-- the reading in a key is the one that it was made of ..
module _ (machine sensor reading : ℕ) (in_range : parts_in_range machine sensor reading ≡ true) where
  pub reading_in_key : reading_in (key_of machine sensor reading) ≡ reading
  unfolding key_of
  reading_in_key = let f = (parts_in_range_means machine sensor reading).fact in_range in omega arith

  -- .. so of a sensor's 1,024 keys the one of reading 1,023 is open, and the others are not
  pub open_by_reading : Open (key_of machine sensor reading) ↔ (reading ≡ open_reading)
  open_by_reading = (λ is_open. omega (arith, reading_in_key), λ last. omega (arith, reading_in_key))

  pub plugged_by_reading : Plugged (key_of machine sensor reading) ↔ (reading < open_reading)
  plugged_by_reading = (λ plugged. omega (arith, reading_in_key), λ below. omega (arith, reading_in_key))

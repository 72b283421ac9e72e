-- Trailing zero bits: what their count says in plain arithmetic, and how far it depends on how many bits are looked at. The count is the kit's
-- `count_trailing_zeros`; nothing here knows the hall.
-- Assumes nothing.
use Prim.Native.Nat.{ℕ, zero, suc, ◌+◌, ◌*◌, ◌/◌, ◌%◌, ◌^◌, ◌<◌, min}
use native.Mathlib.Nat.{pow-suc, mul_assoc, mul_comm, suc-add}
use native.Mathlib.Omega.{arith}
use mathlib.Core.Path.{◌≡◌, refl, ap, subst, ◌∙◌}
use mathlib.Core.Logic.{◌↔◌}
use lib.Count.{count_trailing_zeros, under}

-- i is 2 ^ z times an odd number
pub record TimesOdd (z i : ℕ) : Type 0 where
  pub half : ℕ
  pub product : i ≡ 2 ^ z * (2 * half + 1)

-- a power more is twice as much
twice : (z w : ℕ) → 2 ^ suc z * w ≡ 2 * (2 ^ z * w)
twice z w = ap (λ p. p * w) (pow-suc 2 z ∙ mul_comm (2 ^ z) 2) ∙ mul_assoc 2 (2 ^ z) w

-- every number is below its power of 2
pub below_its_power : (n : ℕ) → n < 2 ^ n
below_its_power zero = omega arith
below_its_power (suc n) = omega (arith, below_its_power n, pow-suc 2 n)

-- among bits enough, a number above 0 is 2 to its trailing zeros times an odd number ..
zeros_found : (k n : ℕ) → 0 < n → n < 2 ^ k → TimesOdd (count_trailing_zeros k n) n
unfolding count_trailing_zeros
zeros_found zero n p h = absurd (omega arith)
zeros_found (suc k) n p h = go (n % 2) refl (zeros_found k (n / 2))
  where
    go : (d : ℕ) → n % 2 ≡ d → (0 < n / 2 → n / 2 < 2 ^ k → TimesOdd (count_trailing_zeros k (n / 2)) (n / 2))
        → TimesOdd (under d (count_trailing_zeros k (n / 2))) n
    go zero e rest =
        let found = rest (omega arith) (omega (arith, pow-suc 2 k)) in
        let z = count_trailing_zeros k (n / 2) in
        record {
          half = found.half;
          product = omega (arith, found.product, twice z (2 * found.half + 1));
        }
    go (suc d) e rest = record { half = n / 2; product = omega arith }

-- .. and for no other power
zeros_only : (z k n half : ℕ) → n ≡ 2 ^ z * (2 * half + 1) → 0 < n → n < 2 ^ k → count_trailing_zeros k n ≡ z
unfolding count_trailing_zeros
zeros_only z zero n half e p h = absurd (omega arith)
zeros_only zero (suc k) n half e p h =
    let odd : n % 2 ≡ 1 = omega arith in
    rw odd
zeros_only (suc z) (suc k) n half e p h =
    let w = 2 ^ z * (2 * half + 1) in
    let double : n ≡ 2 * w = e ∙ twice z (2 * half + 1) in
    let even : n % 2 ≡ 0 = omega arith in
    let rest : n / 2 ≡ w = omega arith in
    rw even (ap suc (zeros_only z k (n / 2) half rest (omega arith) (omega (arith, pow-suc 2 k))))

-- so, of a number above 0 and below 2 ^ k, k bits have exactly that many trailing zeros
pub trailing_zeros_mean : (k n z : ℕ) → 0 < n → n < 2 ^ k → (count_trailing_zeros k n ≡ z) ↔ TimesOdd z n
trailing_zeros_mean k n z p h = (
  λ e. subst (λ y. TimesOdd y n) e (zeros_found k n p h),
  λ odd. zeros_only z k n odd.half odd.product p h,
)

-- so it does not matter how many bits are looked at, where they are enough
pub enough_bits : (j k n : ℕ) → 0 < n → n < 2 ^ j → n < 2 ^ k → count_trailing_zeros j n ≡ count_trailing_zeros k n
enough_bits j k n p g h = (trailing_zeros_mean j n (count_trailing_zeros k n) p g).1 (zeros_found k n p h)

-- of any number: its lowest k bits have as many trailing zeros as its lowest k + a, but at most k
pub bits_cap : (k a n : ℕ) → min k (count_trailing_zeros (k + a) n) ≡ count_trailing_zeros k n
unfolding count_trailing_zeros
bits_cap zero a n = omega arith
bits_cap (suc k) a n = rw (suc-add k a) (go (n % 2) (bits_cap k a (n / 2)))
  where
    go : (d : ℕ) → min k (count_trailing_zeros (k + a) (n / 2)) ≡ count_trailing_zeros k (n / 2)
        → min (suc k) (under d (count_trailing_zeros (k + a) (n / 2))) ≡ under d (count_trailing_zeros k (n / 2))
    go zero e = omega (arith, e)
    go (suc d) e = omega arith

-- of any number: whatever stands above them plays no part in the trailing zeros of its lowest k bits
pub low_bits_alone : (k n m : ℕ) → count_trailing_zeros k (n + 2 ^ k * m) ≡ count_trailing_zeros k n
unfolding count_trailing_zeros
low_bits_alone zero n m = refl
low_bits_alone (suc k) n m =
    let double = twice k m in
    let lowest : (n + 2 ^ suc k * m) % 2 ≡ n % 2 = omega arith in
    let others : (n + 2 ^ suc k * m) / 2 ≡ n / 2 + 2 ^ k * m = omega arith in
    rw (lowest, others, low_bits_alone k (n / 2) m)

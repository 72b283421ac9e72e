-- `flags::set` meets its contract: the mask is the number's bit, and where the number has a flag its word is stored with that bit.
-- Assumes nothing.
use Prim.Native.Nat.{ℕ, ◌*◌, ◌/◌, ◌%◌, ◌^◌, ◌<◌}
use native.Mathlib.Omega.{arith}
use native.Mathlib.Nat.{one-mul}
use mathlib.Core.Path.{◌≡◌, ◌∙◌}
use mathlib.Core.List.{List}
use borrow.Author.Tests.{lt-ltb, le-ltb}
use lib.Bits.{bit_or}
use lib.ListN.{get_or, set}
use lib.Pow.{shl_exact}
use Rattle.flags.specs.FlagWords.{with_flag}
use Rattle.flags.proofs.set.Goals as goal

-- one shifted left by less than 64 places stays a whole power
mask : (k : ℕ) → k < 64 → (1 * 2 ^ k) % 2 ^ 64 ≡ 2 ^ k
mask k h = shl_exact 1 k 64 (omega arith) (omega arith) ∙ one-mul (2 ^ k)

flag_set : (ws : List ℕ) (n : ℕ) → n < 1024
    → set ws (n / 64) (bit_or (get_or ws (n / 64) 0) ((1 * 2 ^ (n % 64)) % 2 ^ 64)) ≡ with_flag ws n
unfolding with_flag
flag_set ws n h = rw (lt-ltb n 1024 h, mask (n % 64) (omega arith))

pub returns-then-number-lt-NUMBERS : goal.returns-then-number-lt-NUMBERS
returns-then-number-lt-NUMBERS c = flag_set c.args.flags.now c.args.number c.if-number-lt-NUMBERS.true

pub returns-else-number-lt-NUMBERS : goal.returns-else-number-lt-NUMBERS
unfolding with_flag
returns-else-number-lt-NUMBERS c = rw (le-ltb c.args.number 1024 c.if-number-lt-NUMBERS.false)

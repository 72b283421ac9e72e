-- `flags::is_set` meets its contract: the number's bit of its word, and no flag above 1,023, where no word is.
-- Assumes nothing.
use Prim.Native.Nat.{ℕ, ◌/◌, ◌≤◌}
use native.Mathlib.Nat.{zero-div}
use native.Mathlib.Omega.{arith}
use mathlib.Core.Path.{◌≡◌}
use mathlib.Core.Bool.{false}
use mathlib.Core.List.{List}
use borrow.Author.Tests.{le-ltb}
use lib.Bits.{and_mask}
use lib.ListN.{length, get_or-eq_default}
use Rattle.flags.specs.FlagWords.{flag_is_set}
use Rattle.flags.proofs.is_set.Goals as goal

-- past the last word all reads as 0
no_flag_above : (ws : List ℕ) (n : ℕ) → length ws ≡ 16 → 1024 ≤ n → false ≡ flag_is_set ws n
unfolding flag_is_set
no_flag_above ws n e h = rw (get_or-eq_default ws 0 {n = n / 64} (omega arith), zero-div)

pub returns-then-number-lt-NUMBERS : goal.returns-then-number-lt-NUMBERS
unfolding flag_is_set
returns-then-number-lt-NUMBERS c = rw (and_mask _ 1)

pub returns-else-number-lt-NUMBERS : goal.returns-else-number-lt-NUMBERS
returns-else-number-lt-NUMBERS c =
    let above = c.if-number-lt-NUMBERS.false in
    rw (le-ltb c.args.number 1024 above) (no_flag_above c.args.flags.now c.args.number (omega arith) above)

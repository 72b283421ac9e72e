-- Two tests joined, a test as a number, and a number as a test.
-- Assumes nothing.
use Rattle.std.specs.Prelude.{ℕ, Bool, true, false, not, eqb}

infixr 35 ◌and◌
infixr 30 ◌or◌
-- both hold
unfoldable pub ◌and◌ : Bool → Bool → Bool
true and b = b
false and b = false

-- at least one holds
unfoldable pub ◌or◌ : Bool → Bool → Bool
true or b = true
false or b = b

-- 1 where the test holds, else 0
abbrev pub one_if : Bool → ℕ
one_if true = 1
one_if false = 0

-- 0 says no, any other number says yes
abbrev pub says_yes : ℕ → Bool
says_yes w = not (eqb w 0)

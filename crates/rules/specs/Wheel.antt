-- "A wheel of levels", the second request: a fixed wheel of 1,024 levels. A place on it goes in; the level there and the next place come back. The wheel is
-- the same for every profile.
-- Assumes nothing.
use Rattle.std.specs.Prelude.{ℕ, zero, suc, ◌+◌, ◌-◌, ◌%◌, min, cond, [], ◌∷◌, ltb, eqb}
use Rattle.std.specs.Int.Count.{count_trailing_zeros}
use Rattle.rules.specs.Connectives.{◌or◌}
use Rattle.rules.specs.NodesLanesEdges.{lanes}
use Rattle.rules.specs.BoxSaysNo.{TableLine, line, refusal_by, Answered, answered}

-- how many places the wheel has; they count from 1
abbrev pub wheel_places : ℕ
wheel_places = 1024

-- the trailing zero bits of i, from 1: it has at most i bits, so that many are enough to look at
abbrev pub trailing_zero_bits : ℕ → ℕ
trailing_zero_bits i = count_trailing_zeros i i

-- entry i is one more than the trailing zero bits of i, and 8 where that would be more
unfoldable pub wheel_level : ℕ → ℕ
wheel_level i = min lanes (1 + trailing_zero_bits i)

-- a place is followed by the one after it, and 1,024 by 1
unfoldable pub next_place : ℕ → ℕ
next_place place = cond (eqb place wheel_places) 1 (place + 1)

-- the places carried on past 1,024: place i, from 1, is (i - 1) mod 1,024 + 1
abbrev pub place_on_wheel : ℕ → ℕ
place_on_wheel i = (i - 1) % wheel_places + 1

-- the place after so many turns from place 1 on, each to the next
abbrev pub place_after : ℕ → ℕ
place_after zero = 1
place_after (suc turns) = next_place (place_after turns)

-- 7: place 0 or above 1,024
abbrev pub off_wheel : ℕ → TableLine
off_wheel place = line 7 (eqb place 0 or ltb wheel_places place)

unfoldable pub turn_refusal : ℕ → ℕ
turn_refusal place = refusal_by (off_wheel place ∷ [])

-- what comes back: the level at the place, and the next place
pub record Turn : Type 0 where
  pub level : ℕ
  pub next : ℕ

abbrev pub turn_of : ℕ → ℕ → Turn
turn_of level next = record { level = level; next = next }

-- zeros beside a refusal
abbrev pub no_turn : Turn
no_turn = turn_of 0 0

unfoldable pub turn_answer : ℕ → Answered Turn
turn_answer place = answered (turn_refusal place) no_turn (turn_of (wheel_level place) (next_place place))

-- When an insert says no, on any memory, number by number in plain words (the record `InsertGives` of the rules). 1 is given exactly where memory is
-- not sound; the profile with the band alone decides 11 and 12.
-- Assumes nothing.
use Prim.Native.Nat.{ℕ}
use mathlib.Core.Path.{◌≡◌}
use mathlib.Core.Bool.{true, false}
use Rattle.rules.specs.HallLine.{Band}
use Rattle.rules.specs.Wheel.{wheel_level}
use Rattle.rules.proofs.InsertRefused.{InsertGives, insert_gives}
use Rattle.rules.proofs.Wheel.{wheel_not_refused}
use Rattle.store.specs.Sizes.{sizes_right}
use Rattle.store.specs.Memory.{Memory, lengths_in, room_in}
use Rattle.store.specs.SaidProfile.{said_profile}
use Rattle.store.specs.Sound.{sound}
use Rattle.store.specs.ChangeIn.{change_in}
use Rattle.store.proofs.Sound.{unsound_means, unsound_fails}
use Rattle.inserting.specs.InsertCall.{insert_refusal_in, insert_in}

pub insert_refused_exactly : (m : Memory) (b : Band) (lo hi : ℕ)
    → InsertGives (sound m ≡ false) (sound m ≡ true) (room_in m) (said_profile m) b lo hi (insert_in m b lo hi).refusal
unfolding insert_in change_in insert_refusal_in
insert_refused_exactly m b lo hi =
    insert_gives (sizes_right (lengths_in m)) (sound m) (unsound_means m) (unsound_fails m) (room_in m) (said_profile m) b lo hi

-- an insert whose levels are both the wheel's is never refused by 7
pub wheel_levels_taken : (m : Memory) (b : Band) (i j : ℕ) → (insert_in m b (wheel_level i) (wheel_level j)).refusal ≡ 7 → ⊥
wheel_levels_taken m b i j = wheel_not_refused i j (insert_refused_exactly m b (wheel_level i) (wheel_level j))

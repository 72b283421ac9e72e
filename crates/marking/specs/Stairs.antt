-- What the code's stair says: the slot of the edge along which a walk goes on, as 1 + its lane, and the place that it leads to; 0 for none of either.
-- Assumes nothing.
use Rattle.std.specs.Prelude.{ℕ, suc, Option, None, Some}
use Rattle.marking.specs.declared.walking.Stair.{Stair}

abbrev pub stair_slot : Option Stair → ℕ
stair_slot None = 0
stair_slot (Some s) = suc s.lane

abbrev pub stair_next : Option Stair → ℕ
stair_next None = 0
stair_next (Some s) = s.next

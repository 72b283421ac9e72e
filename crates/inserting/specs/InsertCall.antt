-- Inserting a band, on any memory: 1 (sizes, or not sound) to 8, 11 and 12; else the profile with the band in it.
-- Assumes nothing.
use Rattle.std.specs.Prelude.{ℕ}
use Rattle.rules.specs.HallLine.{Band}
use Rattle.rules.specs.Changes.{inserted}
use Rattle.rules.specs.BoxSaysNo.{refusal_by, insert_judged_lines, Change, insert_refusal}
use Rattle.store.specs.Sizes.{sizes_right}
use Rattle.store.specs.Memory.{Memory, lengths_in, room_in}
use Rattle.store.specs.SaidProfile.{said_profile}
use Rattle.store.specs.Sound.{sound}
use Rattle.store.specs.ChangeIn.{change_in}

unfoldable pub insert_refusal_in : Memory → Band → ℕ → ℕ → ℕ
insert_refusal_in m b low_level high_level =
    insert_refusal (sizes_right (lengths_in m)) (sound m) (room_in m) (said_profile m) b low_level high_level

unfoldable pub insert_in : Memory → Band → ℕ → ℕ → Change Memory
insert_in m b low_level high_level =
    change_in m (insert_refusal_in m b low_level high_level) (inserted (said_profile m) b low_level high_level)

-- ---- as the code goes about it

-- what those of its lines give that are judged before anything is drafted: 1 to 8
unfoldable pub insert_judged : Memory → Band → ℕ → ℕ → ℕ
insert_judged m b low_level high_level =
    refusal_by (insert_judged_lines (sizes_right (lengths_in m)) (sound m) (said_profile m) b low_level high_level)

-- Removing a band, on any memory: 1 (sizes, or not sound), 2, 3, 9, 10 and 12; else the profile without the band.
-- Assumes nothing.
use Rattle.std.specs.Prelude.{ℕ}
use Rattle.rules.specs.Changes.{removed}
use Rattle.rules.specs.BoxSaysNo.{refusal_by, remove_judged_lines, Change, remove_refusal}
use Rattle.store.specs.Sizes.{sizes_right}
use Rattle.store.specs.Memory.{Memory, lengths_in, room_in}
use Rattle.store.specs.SaidProfile.{said_profile}
use Rattle.store.specs.Sound.{sound}
use Rattle.store.specs.ChangeIn.{change_in}

unfoldable pub remove_refusal_in : Memory → ℕ → ℕ → ℕ
remove_refusal_in m number scope = remove_refusal (sizes_right (lengths_in m)) (sound m) (room_in m) (said_profile m) number scope

unfoldable pub remove_in : Memory → ℕ → ℕ → Change Memory
remove_in m number scope = change_in m (remove_refusal_in m number scope) (removed (said_profile m) number)

-- ---- as the code goes about it

-- what those of its lines give that are judged before anything is drafted: 1, 2, 3, 9 and 10
unfoldable pub remove_judged : Memory → ℕ → ℕ → ℕ
remove_judged m number scope = refusal_by (remove_judged_lines (sizes_right (lengths_in m)) (sound m) (said_profile m) number scope)

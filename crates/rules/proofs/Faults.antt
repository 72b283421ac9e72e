-- Which of 2 to 7 is given of a band and the levels of its ends, and which of 11 and 12 of the profile after a change, from plain facts on numbers:
-- a law for each answer that judging code comes to.
-- Assumes nothing.
use Prim.Native.Nat.{ℕ, ◌≤◌, ◌<◌}
use mathlib.Core.Path.{◌≡◌}
use mathlib.Core.Bool.{true, false}
use mathlib.Core.List.{[], ◌∷◌}
use lib.ListN.{length}
use borrow.Author.Tests.{lt-ltb, le-ltb}
use Rattle.rules.specs.Connectives.{◌and◌, ◌or◌}
use Rattle.rules.specs.HallLine.{Band, highest_key, highest_band_number, house, holds_whole_key, within_scope}
use Rattle.rules.specs.NodesLanesEdges.{is_level}
use Rattle.rules.specs.Profile.{Profile}
use Rattle.rules.specs.Marks.{marks_in_use}
use Rattle.rules.specs.Room.{Room}
use Rattle.rules.specs.BoxSaysNo.{refusal_by, holds_none, end_elsewhere, band_fault, fault_of, fit_refusal}
use Rattle.rules.proofs.BoxSaysNo.{fault_of_levels}

-- no number of the band is above its highest
pub record NoneAbove (b : Band) : Type 0 where
  pub scope : b.scope ≤ house
  pub number : b.number ≤ highest_band_number
  pub low : b.low ≤ highest_key
  pub high : b.high ≤ highest_key

module _ (b : Band) where
  pub by_2 : house < b.scope → 2 ≡ band_fault b
  unfolding band_fault
  by_2 above = rw (lt-ltb _ _ above)

  pub by_3 : b.scope ≤ house → highest_band_number < b.number → 3 ≡ band_fault b
  unfolding band_fault
  by_3 scope above = rw (le-ltb _ _ scope, lt-ltb _ _ above)

  pub by_4_low : b.scope ≤ house → b.number ≤ highest_band_number → highest_key < b.low → 4 ≡ band_fault b
  unfolding band_fault ◌or◌
  by_4_low scope number above = rw (le-ltb _ _ scope, le-ltb _ _ number, lt-ltb _ _ above)

  pub by_4_high : b.scope ≤ house → b.number ≤ highest_band_number → b.low ≤ highest_key → highest_key < b.high → 4 ≡ band_fault b
  unfolding band_fault ◌or◌
  by_4_high scope number low above = rw (le-ltb _ _ scope, le-ltb _ _ number, le-ltb _ _ low, lt-ltb _ _ above)

  module _ (r : NoneAbove b) where
    -- the lines that are left
    left : band_fault b ≡ refusal_by (holds_none b ∷ end_elsewhere b ∷ [])
    unfolding band_fault ◌or◌
    left = rw (le-ltb _ _ r.scope, le-ltb _ _ r.number, le-ltb _ _ r.low, le-ltb _ _ r.high)

    pub by_5 : holds_whole_key b ≡ false → 5 ≡ band_fault b
    by_5 none = rw (left, none)

    pub by_6 : holds_whole_key b ≡ true → within_scope b ≡ false → 6 ≡ band_fault b
    by_6 some elsewhere = rw (left, some, elsewhere)

    pub by_none : holds_whole_key b ≡ true → within_scope b ≡ true → 0 ≡ band_fault b
    by_none some within = rw (left, some, within)

module _ (b : Band) (low high : ℕ) (none : band_fault b ≡ 0) where
  pub by_7 : (is_level low and is_level high) ≡ false → 7 ≡ fault_of b low high
  by_7 wrong = rw (fault_of_levels b low high none, wrong)

  pub by_none_of_all : (is_level low and is_level high) ≡ true → 0 ≡ fault_of b low high
  by_none_of_all right = rw (fault_of_levels b low high none, right)

module _ (room : Room) (after : Profile) where
  pub by_11 : room.nodes < length after.nodes → 11 ≡ fit_refusal room after
  unfolding fit_refusal
  by_11 over = rw (lt-ltb _ _ over)

  pub by_12 : length after.nodes ≤ room.nodes → room.marks < marks_in_use after → 12 ≡ fit_refusal room after
  unfolding fit_refusal
  by_12 few over = rw (le-ltb _ _ few, lt-ltb _ _ over)

-- One pass over the card: the value it begins with, one step for each record, and what is told at its end.
-- Numbers seen and numbers of records that hold the key stand as flags.
-- Assumes nothing.
use Rattle.std.specs.Prelude.{ℕ, ◌+◌, cond, List, [], ◌∷◌, eqb}
use Rattle.std.specs.Int.Count.{ones}
use Rattle.rules.specs.Lists.{sum_of}
use Rattle.rules.specs.HallLine.{Band, holds}
use Rattle.rules.specs.BoxSaysNo.{key_fault, band_fault, no_flags}
use Rattle.rules.specs.BenchCard.{Scan}
use Rattle.flags.specs.FlagWords.{with_flag, flag_is_set}

-- what is wrong and where, the numbers seen, and those of the records that hold the key
pub record Pass : Type 0 where
  pub refusal : ℕ
  pub place : ℕ
  pub seen : List ℕ
  pub flags : List ℕ

-- no number seen or held: at the start, and once something is wrong
abbrev pub bare : ℕ → ℕ → Pass
bare refusal place = record { refusal = refusal; place = place; seen = no_flags; flags = no_flags }

-- the key is judged before the records, with place 0
unfoldable pub begin_of : ℕ → Pass
begin_of k = bare (key_fault k) 0

-- a record is judged by 2 to 6, then by 8, where its number was seen
unfoldable pub judge_of : List ℕ → Band → ℕ
judge_of seen b = cond (eqb (band_fault b) 0) (cond (flag_is_set seen b.number) 8 0) (band_fault b)

-- a right record's number is seen, and held where the record holds the key
unfoldable pub entered_of : Pass → Band → ℕ → Pass
entered_of p b k =
    record {
      refusal = p.refusal;
      place = p.place;
      seen = with_flag p.seen b.number;
      flags = cond (holds b k) (with_flag p.flags b.number) p.flags;
    }

-- the record at a place is entered, or told where it is bad; once something is wrong nothing changes any more
unfoldable pub step_of : Pass → ℕ → Band → ℕ → Pass
step_of p place b k =
    cond (eqb p.refusal 0)
    (cond (eqb (judge_of p.seen b) 0) (entered_of p b k) (bare (judge_of p.seen b) place))
    p

-- a step for each record, from a place on
abbrev pub pass_over : Pass → ℕ → List Band → ℕ → Pass
pass_over p place [] k = p
pass_over p place (b ∷ bs) k = pass_over (step_of p place b k) (place + 1) bs k

-- the count is the number of set flags
abbrev pub told_of : Pass → Scan
told_of p = record { refusal = p.refusal; place = p.place; flags = p.flags; count = sum_of ones p.flags }

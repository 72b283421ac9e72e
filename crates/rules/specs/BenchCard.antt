-- "When the box says no", its last lines: the bench card, a plain scan over a list of band records for one key.
-- Assumes nothing.
use Rattle.std.specs.Prelude.{ℕ, suc, cond, List, [], ◌∷◌, ◌++◌, eqb}
use Rattle.rules.specs.Lists.{member}
use Rattle.rules.specs.HallLine.{Band, holds}
use Rattle.rules.specs.Marks.{numbers_where}
use Rattle.rules.specs.Flags.{flags_of, count_of}
use Rattle.rules.specs.BoxSaysNo.{refusal_by, line, band_lines, key_fault}

-- what is wrong, and at which place, counted from 1; 0 for none
pub record Bad : Type 0 where
  pub refusal : ℕ
  pub place : ℕ

abbrev pub bad : ℕ → ℕ → Bad
bad n p = record { refusal = n; place = p }

-- each record is judged by 2 to 6, and no number stands twice: 8, told at the later one
unfoldable pub record_fault : List ℕ → Band → ℕ
record_fault seen b = refusal_by (band_lines b ++ line 8 (member b.number seen) ∷ [])

-- the first bad place among the records from a place on, after those numbers were seen
abbrev pub first_bad : List ℕ → ℕ → List Band → Bad
first_bad seen place [] = bad 0 0
first_bad seen place (b ∷ bs) =
    cond (eqb (record_fault seen b) 0) (first_bad (b.number ∷ seen) (suc place) bs) (bad (record_fault seen b) place)

-- the key is judged by 4 before the records, with place 0
unfoldable pub card_bad : List Band → ℕ → Bad
card_bad records k = cond (eqb (key_fault k) 0) (first_bad [] 1 records) (bad (key_fault k) 0)

-- what the card answers: the first thing wrong, the flags and the count
pub record Scan : Type 0 where
  pub refusal : ℕ
  pub place : ℕ
  pub flags : List ℕ
  pub count : ℕ

-- flags and count of those numbers, beside what is wrong
abbrev pub scanned : Bad → List ℕ → Scan
scanned w ns = record { refusal = w.refusal; place = w.place; flags = flags_of ns; count = count_of ns }

-- flags and count of the records that hold the key; zero where something is bad
unfoldable pub scan_of : List Band → ℕ → Scan
scan_of records k = scanned (card_bad records k) (cond (eqb (card_bad records k).refusal 0) (numbers_where (λ b. holds b k) records) [])

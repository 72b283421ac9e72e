-- The card's records: those of a lent slice of bands, and those kept as words, six to a record: number, scope, low, high, low closed, high closed.
-- Assumes nothing.
use Rattle.std.specs.Prelude.{ℕ, zero, suc, ◌+◌, ◌*◌, ◌/◌, cond, List, [], ◌∷◌, map, ltb, length, get_or}
use Rattle.std.proofs.lemmas.List.Edits.{sets}
use Rattle.rules.specs.Connectives.{one_if, says_yes}
use Rattle.rules.specs.HallLine.{Band, band_of}
use Rattle.hall.specs.SaidBand.{said}
use Rattle.hall.specs.declared.bands.Band.{Band as LentBand}

-- the records of lent bands
abbrev pub bands_of : List LentBand → List Band
bands_of = map said

-- the record at index i; an end is open where its word is 0, else closed
unfoldable pub record_at : List ℕ → ℕ → Band
record_at ws i =
    band_of
    (get_or ws (i * 6) 0)
    (get_or ws (i * 6 + 1) 0)
    (get_or ws (i * 6 + 2) 0)
    (get_or ws (i * 6 + 3) 0)
    (says_yes (get_or ws (i * 6 + 4) 0))
    (says_yes (get_or ws (i * 6 + 5) 0))

-- the record of six words alone
abbrev pub record_of : List ℕ → Band
record_of six = record_at six 0

-- m records from index i on
abbrev pub records_from : List ℕ → ℕ → ℕ → List Band
records_from ws i zero = []
records_from ws i (suc m) = record_at ws i ∷ records_from ws (suc i) m

-- all whole records among the words
unfoldable pub records_in : List ℕ → List Band
records_in ws = records_from ws 0 (length ws / 6)

-- the six words of a record
abbrev pub words_of : Band → List ℕ
words_of b = b.number ∷ b.scope ∷ b.low ∷ b.high ∷ one_if b.low_closed ∷ one_if b.high_closed ∷ []

-- the words with a record at index i; past the last whole place nothing changes
unfoldable pub with_record : List ℕ → ℕ → Band → List ℕ
with_record ws i b = cond (ltb i (length ws / 6)) (sets ws (i * 6) (words_of b)) ws

-- What the code's result says of a search: the flags of the numbers taken, how many were taken, the looks, the place.
-- Assumes nothing.
use Rattle.std.specs.Prelude.{ℕ, ◌+◌, List, length}
use Rattle.rules.specs.Flags.{flags_of}
use Rattle.flags.specs.FlagWords.{with_flags}
use Rattle.search.specs.Descent.{Descent}
use Rattle.search.specs.declared.taking.Taken.{Taken}
use Rattle.search.specs.declared.descent.Found.{Found}

-- the numbers of a list, taken one after the other
abbrev pub with_taken : Taken → List ℕ → Taken
with_taken t ns = record { flags = with_flags t.flags ns; met = t.met + length ns }

-- what has been taken when these numbers were
abbrev pub taken_of : List ℕ → Taken
taken_of ns = record { flags = flags_of ns; met = length ns }

-- what is found by a search
abbrev pub found_of : Descent → Found
found_of d = record { taken = taken_of d.taken; looks = d.looks; place = d.place }

-- The node places of the ends of the live bands, number by number; and places noted in words.
-- Assumes nothing.
use Rattle.std.specs.Prelude.{ℕ, zero, suc, Bool, List, [], ◌∷◌, ◌++◌, get_or, set}
use Rattle.rules.specs.Connectives.{says_yes}
use Rattle.rules.specs.Lists.{only_if}
use Rattle.rules.specs.HallLine.{Band}
use Rattle.store.specs.Sizes.{band_places}
use Rattle.store.specs.Places.{band_field, live_field}
use Rattle.store.specs.SaidProfile.{said_band}
use Rattle.search.specs.PlaceOf.{place_of}

-- the places of the ends of the band of number b, if it is live; 0 where none is found
unfoldable pub end_places_of : List ℕ → List ℕ → ℕ → List ℕ
end_places_of bands nodes b =
    let band : Band = said_band bands b in
    only_if (says_yes (band_field bands b live_field)) (place_of nodes band.low ∷ place_of nodes band.high ∷ [])

-- those of the m numbers from b on
abbrev pub end_places_from : List ℕ → List ℕ → ℕ → ℕ → List ℕ
end_places_from bands nodes b zero = []
end_places_from bands nodes b (suc m) = end_places_of bands nodes b ++ end_places_from bands nodes (suc b) m

-- those of all numbers
unfoldable pub end_places : List ℕ → List ℕ → List ℕ
end_places bands nodes = end_places_from bands nodes 0 band_places

-- places noted, each by a 1 at its index
abbrev pub noted : List ℕ → List ℕ → List ℕ
noted words [] = words
noted words (i ∷ is) = noted (set words i 1) is

-- the place is noted
abbrev pub is_noted : List ℕ → ℕ → Bool
is_noted words i = says_yes (get_or words i 0)

-- The test of the band places: each is free, or has a band that is right by 2 to 6.
-- Assumes nothing.
use Rattle.std.specs.Prelude.{ℕ, ◌+◌, ◌*◌, Bool, List, leb, eqb}
use Rattle.rules.specs.Connectives.{◌and◌, ◌or◌}
use Rattle.rules.specs.Lists.{all_from}
use Rattle.rules.specs.BoxSaysNo.{band_fault}
use Rattle.store.specs.Sizes.{band_place_words, band_places}
use Rattle.store.specs.Places.{band_field, live_field, low_closed_field, high_closed_field, reserve_field}
use Rattle.store.specs.SaidProfile.{said_band}
use Rattle.checking.specs.Zeros.{zeros_between}

-- the place of number b is free: its eight words are zeros
unfoldable pub band_place_free : List ℕ → ℕ → Bool
band_place_free bands b = zeros_between (b * band_place_words) (b * band_place_words + band_place_words) bands

-- it has a right band: live is 1, each closed word 0 or 1, the two words after them zeros, and the band is right by 2 to 6
unfoldable pub band_place_taken : List ℕ → ℕ → Bool
band_place_taken bands b =
    eqb (band_field bands b live_field) 1
    and leb (band_field bands b low_closed_field) 1
    and leb (band_field bands b high_closed_field) 1
    and zeros_between (b * band_place_words + reserve_field) (b * band_place_words + band_place_words) bands
    and eqb (band_fault (said_band bands b)) 0

-- the place of number b is free, or has a right band
unfoldable pub band_place_right : List ℕ → ℕ → Bool
band_place_right bands b = band_place_free bands b or band_place_taken bands b

-- each of the 1,024 places is free, or has a right band
unfoldable pub band_places_right : List ℕ → Bool
band_places_right bands = all_from (band_place_right bands) 0 band_places

-- The band words of a profile: word q is field q mod 8 of the place of number q div 8.
-- Assumes nothing.
use Rattle.std.specs.Prelude.{ℕ, zero, suc, ◌*◌, ◌/◌, ◌%◌, List, [], ◌∷◌, get_or}
use Rattle.std.proofs.Math.Option.{Option, none, some}
use Rattle.rules.specs.Connectives.{one_if}
use Rattle.rules.specs.HallLine.{Band}
use Rattle.rules.specs.Profile.{band_numbered}
use Rattle.store.specs.Sizes.{band_place_words, band_places}

-- field f of a band's place: a number that is not live has zeros
abbrev pub laid_band_field : Option Band → ℕ → ℕ
laid_band_field none f = 0
laid_band_field (some b) f =
    get_or (1 ∷ b.scope ∷ b.low ∷ b.high ∷ one_if b.low_closed ∷ one_if b.high_closed ∷ 0 ∷ 0 ∷ []) f 0

-- m band words from word q on
abbrev pub laid_bands_from : List Band → ℕ → ℕ → List ℕ
laid_bands_from bs q zero = []
laid_bands_from bs q (suc m) =
    laid_band_field (band_numbered (q / band_place_words) bs) (q % band_place_words) ∷ laid_bands_from bs (suc q) m

unfoldable pub laid_bands : List Band → List ℕ
laid_bands bs = laid_bands_from bs 0 (band_places * band_place_words)

-- Band words once the place of a number is laid anew: with a band, or free.
-- Assumes nothing.
use Rattle.std.specs.Prelude.{ℕ, List}
use Rattle.std.proofs.Math.Option.{Option}
use Rattle.rules.specs.HallLine.{Band}
use Rattle.store.specs.Places.{with_band_field, live_field, scope_field, low_field, high_field, low_closed_field, high_closed_field}
use Rattle.store.specs.LaidBands.{laid_band_field}

-- the six fields of the place of band number b are these
unfoldable pub with_fields : (b live scope low high low_closed high_closed : ℕ) → List ℕ → List ℕ
with_fields b live scope low high low_closed high_closed words =
    let live_stored = with_band_field words b live_field live in
    let scope_stored = with_band_field live_stored b scope_field scope in
    let low_stored = with_band_field scope_stored b low_field low in
    let high_stored = with_band_field low_stored b high_field high in
    let low_closed_stored = with_band_field high_stored b low_closed_field low_closed in
    with_band_field low_closed_stored b high_closed_field high_closed

-- the fields are as the band has them, 0 where there is none; the two words after them are zeros before and after
unfoldable pub with_place_of : Option Band → ℕ → List ℕ → List ℕ
with_place_of o b =
    let laid = laid_band_field o in
    with_fields b (laid live_field) (laid scope_field) (laid low_field) (laid high_field) (laid low_closed_field) (laid high_closed_field)

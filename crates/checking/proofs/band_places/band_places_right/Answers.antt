-- `checking::band_places::band_places_right` meets its contract.
-- Assumes nothing.
use Rattle.std.proofs.Common.{rules, refl}
use Rattle.store.specs.Sizes.{band_places}
use Rattle.checking.specs.BandPlaces.{band_place_right, band_places_right}
use Rattle.checking.proofs.AllOf.{all_below}
use Rattle.checking.proofs.band_places.band_places_right.Goals as goal

pub returns : goal.returns
unfolding band_places_right
returns c = all_below (band_place_right c.args.bands.now) (λ x r f k. search rules) 0 band_places _ c.all.ensures.runs refl refl

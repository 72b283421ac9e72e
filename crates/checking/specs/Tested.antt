-- All tests of the check, in the four steps in which they are made: sizes; band and node places; ends and links; fences and marks. A step is made
-- only where those before it have passed. Together they are `sound` (proofs/TestedIsSound.antt), which is what the check promises.
-- Assumes nothing.
use Rattle.std.specs.Prelude.{Bool}
use Rattle.rules.specs.Connectives.{◌and◌}
use Rattle.store.specs.Sizes.{sizes_right}
use Rattle.store.specs.Memory.{Memory, lengths_in}
use Rattle.checking.specs.BandPlaces.{band_places_right}
use Rattle.checking.specs.NodePlaces.{node_places_right}
use Rattle.checking.specs.Ends.{ends_match}
use Rattle.checking.specs.Links.{links_right}
use Rattle.checking.specs.MarkPlaces.{marks_right}

-- memory passes all four steps
unfoldable pub tested : Memory → Bool
tested m =
    sizes_right (lengths_in m)
    and (band_places_right m.bands and node_places_right m.nodes)
    and (ends_match m.bands m.nodes and links_right m.nodes)
    and marks_right m.bands m.nodes m.marks

-- The band readout on any memory: 1 (sizes), 3, 9 where the number's place is not live, else what stands in its place.
-- Assumes nothing.
use Rattle.std.specs.Prelude.{ℕ}
use Rattle.std.proofs.Math.Option.{none, some}
use Rattle.rules.specs.Connectives.{says_yes}
use Rattle.rules.specs.Readouts.{BandRead, band_read_of}
use Rattle.rules.specs.BoxSaysNo.{Answered, answered, refusal_by, band_read_lines}
use Rattle.store.specs.Sizes.{sizes_right}
use Rattle.store.specs.Memory.{Memory, lengths_in}
use Rattle.store.specs.Places.{band_field, live_field}
use Rattle.store.specs.SaidProfile.{said_band}

-- the number is live where its place says so
unfoldable pub band_refusal_in : Memory → ℕ → ℕ
band_refusal_in m number =
    refusal_by (band_read_lines (sizes_right (lengths_in m)) number (says_yes (band_field m.bands number live_field)))

unfoldable pub band_in : Memory → ℕ → Answered BandRead
band_in m number = answered (band_refusal_in m number) (band_read_of none) (band_read_of (some (said_band m.bands number)))

-- The rules' band with the numbers of a band of the code.
-- Assumes nothing.
use Rattle.rules.specs.HallLine.{Band as RuledBand, band_of}
use Rattle.hall.specs.declared.bands.Band.{Band}

abbrev pub said : Band → RuledBand
said b = band_of b.number b.scope b.low.0 b.high.0 b.low_closed b.high_closed

-- `asking::band_readout::band` meets its contract: at each `return` the tests that led there say which line is the first that applies.
-- Assumes nothing.
use mathlib.Core.Path.{sym, ap, ◌∙◌}
use mathlib.Core.Option.{some}
use native.Mathlib.Omega.{arith}
use Rattle.rules.specs.Readouts.{band_read_of}
use Rattle.rules.specs.BoxSaysNo.{saying}
use Rattle.store.proofs.OnlyAsked.{left_as_it_was}
use Rattle.asking.proofs.CallLines.{band_by_1, band_by_3, band_by_9, band_read_lem}
use Rattle.asking.proofs.band_readout.band.Goals as goal

pub returns-then-not-sizes_right : goal.returns-then-not-sizes_right
returns-then-not-sizes_right c =
    left_as_it_was
    (band_by_1 _ (sym c.if-not-sizes_right.ensures) _)

pub returns-then-number-gt-HIGHEST_NUMBER : goal.returns-then-number-gt-HIGHEST_NUMBER
returns-then-number-gt-HIGHEST_NUMBER c =
    left_as_it_was
    (band_by_3 _ (sym c.if-not-sizes_right.ensures) _ (omega arith))

pub returns-then-not-is_live : goal.returns-then-not-is_live
returns-then-not-is_live c =
    left_as_it_was
    (band_by_9 _ (sym c.if-not-sizes_right.ensures) _ (omega arith) (sym c.if-not-is_live.ensures))

pub returns : goal.returns
returns c =
    left_as_it_was
    (ap (λ b. saying 0 (band_read_of (some b))) c.band_at-band.ensures
    ∙ band_read_lem _ (sym c.if-not-sizes_right.ensures) _ (omega arith)
    (sym c.if-not-is_live.ensures))

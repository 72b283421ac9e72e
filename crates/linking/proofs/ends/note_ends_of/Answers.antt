-- `linking::ends::note_ends_of` meets its contract.
-- Assumes nothing.
use mathlib.Core.Path.{sym, ◌∙◌}
use Rattle.linking.proofs.NotingSteps.{not_live_noted, live_noted}
use Rattle.linking.proofs.ends.note_ends_of.Goals as goal

pub returns-then-not-is_live : goal.returns-then-not-is_live
returns-then-not-is_live c = not_live_noted _ _ _ _ (sym c.is_live.ensures ∙ c.if-not-is_live.true)

pub returns : goal.returns
returns c =
    live_noted _ _ _ _
    (sym c.is_live.ensures ∙ c.if-not-is_live.false)
    c.band_at-band.ensures
    c.place_of.ensures.place
    c.place_of-2.ensures.place
    c.note-low.ensures
    c.note-high.ensures

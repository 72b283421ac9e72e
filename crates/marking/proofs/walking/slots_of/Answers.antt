-- `marking::walking::slots_of` meets its contract: it walks for the band of a live number, and for no other.
-- Assumes nothing.
use mathlib.Core.Path.{sym, ◌∙◌}
use native.Mathlib.Omega.{arith}
use lib.ListN.{length-take}
use Rattle.marking.proofs.WalkedSlots.{slots_live, no_slots}
use Rattle.marking.proofs.walking.slots_of.Goals as goal

pub returns-then-not-is_live : goal.returns-then-not-is_live
returns-then-not-is_live c = (sym (no_slots _ _ _ (sym c.is_live.ensures ∙ c.if-not-is_live.true)), omega arith)

pub returns : goal.returns
returns c =
    let live = sym c.is_live.ensures ∙ c.if-not-is_live.false in
    rw (slots_live _ _ _ live, ← c.band_at.ensures) (c.walk-count.ensures.0, omega (arith, length-take c.walk-count.result c.walk-count.new.slots, c.walk-count.ensures.1))

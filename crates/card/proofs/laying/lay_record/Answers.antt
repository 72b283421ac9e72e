-- `card::lay_record` meets its contract: below the whole places the six words of the record are copied in, and past them nothing changes.
-- Assumes nothing.
use mathlib.Core.Path.{sym, ◌∙◌}
use native.Mathlib.Omega.{arith}
use Rattle.card.proofs.RecordStored.{record_out, record_copied, closed_word}
use Rattle.card.proofs.laying.lay_record.Goals as goal

pub returns-then-at-words : goal.returns-then-at-words
returns-then-at-words c =
    let low = c.from.ensures ∙ closed_word c.args.band.low_closed in
    let high = c.from-then-at-words.ensures ∙ closed_word c.args.band.high_closed in
    rw (c.copy_from_slice.ensures.after, low, high) (record_copied _ _ _ (omega arith) _ (omega arith))

pub returns-else-at-words : goal.returns-else-at-words
returns-else-at-words c = sym (record_out _ _ _ (omega arith))

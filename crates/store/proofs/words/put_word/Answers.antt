-- `store::words::put_word` meets its contract.
-- Assumes nothing.
use mathlib.Core.Path.{sym}
use lib.Seq.{set_out}
use Rattle.store.proofs.words.put_word.Goals as goal

-- past the end of the slice
pub returns-else-at-words : goal.returns-else-at-words
returns-else-at-words c = sym (set_out _ _ _ c.if-at-words.false)

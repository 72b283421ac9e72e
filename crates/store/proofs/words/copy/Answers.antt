-- `store::words::copy` meets its contract.
-- Assumes nothing.
use Rattle.store.proofs.Copied.{copied_in_common}
use Rattle.store.proofs.words.copy.Goals as goal

pub returns : goal.returns
returns c = rw c.copy_from_slice.ensures.after (copied_in_common _ _ _ c.min-common.ensures)

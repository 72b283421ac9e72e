-- Making an empty profile in lent memory, whatever it held: refused only by 1 (sizes).
-- Assumes nothing.
use Rattle.rules.specs.Profile.{empty_profile}
use Rattle.rules.specs.BoxSaysNo.{Change, empty_refusal}
use Rattle.store.specs.Sizes.{sizes_right}
use Rattle.store.specs.Memory.{Memory, lengths_in}
use Rattle.store.specs.ChangeIn.{change_in}

unfoldable pub empty_in : Memory → Change Memory
empty_in m = change_in m (empty_refusal (sizes_right (lengths_in m))) empty_profile

-- When making an empty profile says no, in plain words (the record `SizesGive` of the rules): for its sizes alone.
-- Assumes nothing.
use Rattle.rules.proofs.OthersRefused.{SizesGive, empty_gives}
use Rattle.store.specs.Sizes.{sizes_right}
use Rattle.store.specs.Memory.{Memory, lengths_in}
use Rattle.store.specs.ChangeIn.{change_in}
use Rattle.emptying.specs.EmptyCall.{empty_in}

pub empty_refused_exactly : (m : Memory) → SizesGive (sizes_right (lengths_in m)) (empty_in m).refusal
unfolding empty_in change_in
empty_refused_exactly m = empty_gives (sizes_right (lengths_in m))

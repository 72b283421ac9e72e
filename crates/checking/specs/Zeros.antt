-- Free words: zeros from one index up to another.
-- Assumes nothing.
use Rattle.std.specs.Prelude.{ℕ, Bool, List, eqb}
use Rattle.rules.specs.Lists.{all}
use Rattle.store.specs.SaidMarks.{between}

-- every word from one index up to another is 0, as far as there are any
unfoldable pub zeros_between : ℕ → ℕ → List ℕ → Bool
zeros_between from to words = all (λ w. eqb w 0) (between from to words)

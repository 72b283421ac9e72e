-- Words copied over others.
-- Assumes nothing.
use Rattle.std.specs.Prelude.{ℕ, List, ◌++◌, length, take, drop}

-- as far as there are any and there is room
unfoldable pub copied : List ℕ → List ℕ → List ℕ
copied from to = take (length to) from ++ drop (length from) to

-- The one memory of a profile for a given room: its band words, node words and mark words.
-- Assumes nothing.
use Rattle.rules.specs.Profile.{Profile}
use Rattle.rules.specs.Room.{Room}
use Rattle.store.specs.Sizes.{lengths_for}
use Rattle.store.specs.Memory.{Memory, lent}
use Rattle.store.specs.LaidBands.{laid_bands}
use Rattle.store.specs.LaidNodes.{laid_nodes}
use Rattle.store.specs.LaidMarks.{laid_marks}

unfoldable pub laid_memory : Room → Profile → Memory
laid_memory room p =
    lent (laid_bands p.bands) (laid_nodes (lengths_for room).nodes p) (laid_marks (lengths_for room).marks p)

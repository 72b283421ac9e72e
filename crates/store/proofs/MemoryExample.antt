-- The example of docs/MEMORY.md: the words of band 1, [100,400) of machine 0, alone, in room for 2 nodes and 3 marks.
-- Assumes nothing.
use mathlib.Core.Path.{◌≡◌, refl}
use mathlib.Core.Bool.{true, false}
use mathlib.Core.List.{[], ◌∷◌}
use lib.ListN.{take}
use Rattle.rules.specs.HallLine.{Band, band_of}
use Rattle.rules.specs.NodesLanesEdges.{node_of}
use Rattle.rules.specs.Profile.{Profile, profile_of}
use Rattle.rules.specs.Room.{room_of}
use Rattle.rules.specs.SoundMemory.{sound_in}
use Rattle.rules.specs.Computes.{computes}
use Rattle.store.specs.Padded.{padded}
use Rattle.store.specs.LaidBands.{laid_bands}
use Rattle.store.specs.LaidMarks.{slot_marks, node_marks, laid_marks}
use Rattle.store.specs.LaidNodes.{laid_header, laid_node, laid_nodes}

band : Band
band = band_of 1 0 100 400 true false

alone : Profile
alone = profile_of (band ∷ []) (node_of 100 1 ∷ node_of 400 2 ∷ [])

-- it may soundly stand in that room
stands_there : sound_in (room_of 2 3) alone ≡ true
unfolding alone band computes
stands_there = refl

-- the places of numbers 0 and 1
band_words_lem :
    take 16 (laid_bands (band ∷ []))
    ≡ 0 ∷ 0 ∷ 0 ∷ 0 ∷ 0 ∷ 0 ∷ 0 ∷ 0
    ∷ 1 ∷ 0 ∷ 100 ∷ 400 ∷ 1 ∷ 0 ∷ 0 ∷ 0
    ∷ []
unfolding band computes laid_bands
band_words_lem = refl

-- the header and the two records
node_words_lem :
    laid_nodes 60 alone
    ≡ 2 ∷ 8 ∷ 1 ∷ 2 ∷ 0 ∷ 0 ∷ 0 ∷ 0 ∷ 0 ∷ 0 ∷ 2 ∷ 0 ∷ 0 ∷ 0 ∷ 0 ∷ 0 ∷ 0 ∷ 0 ∷ 0 ∷ 0
    ∷ 100 ∷ 1 ∷ 2 ∷ 0 ∷ 0 ∷ 0 ∷ 0 ∷ 0 ∷ 0 ∷ 0 ∷ 0 ∷ 1 ∷ 2 ∷ 2 ∷ 2 ∷ 2 ∷ 2 ∷ 2 ∷ 2 ∷ 2
    ∷ 400 ∷ 2 ∷ 0 ∷ 0 ∷ 0 ∷ 0 ∷ 0 ∷ 0 ∷ 0 ∷ 0 ∷ 2 ∷ 2 ∷ 2 ∷ 2 ∷ 2 ∷ 2 ∷ 2 ∷ 2 ∷ 2 ∷ 2
    ∷ []
unfolding alone band computes slot_marks node_marks laid_header laid_node padded laid_nodes
node_words_lem = refl

-- two marks, and a free place
mark_words_lem : laid_marks 3 alone ≡ 1 ∷ 1 ∷ 0 ∷ []
unfolding alone band computes slot_marks node_marks padded laid_marks
mark_words_lem = refl

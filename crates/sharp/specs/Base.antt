-- The memory that each row of the table changes, word for word: three bands on three nodes, in room for one node and two marks more.
--   number 1   [10,50) of machine 0
--   number 2   [20,20] of machine 0
--   number 3   (10,50] of the house
--   levels     10:8, 20:7, 50:8
-- Assumes nothing.
use Rattle.std.specs.Prelude.{ℕ, ◌*◌, List, [], ◌∷◌}
use Rattle.store.specs.Sizes.{band_places, band_place_words}
use Rattle.store.specs.Padded.{padded}
use Rattle.store.specs.Memory.{Memory, lent}

-- the band places of numbers 0 to 4; 0 and 4 are free
unfoldable pub band_words : List ℕ
band_words =
    0 ∷ 0 ∷ 0 ∷ 0 ∷ 0 ∷ 0 ∷ 0 ∷ 0
    ∷ 1 ∷ 0 ∷ 10 ∷ 50 ∷ 1 ∷ 0 ∷ 0 ∷ 0
    ∷ 1 ∷ 0 ∷ 20 ∷ 20 ∷ 1 ∷ 1 ∷ 0 ∷ 0
    ∷ 1 ∷ 64 ∷ 10 ∷ 50 ∷ 0 ∷ 1 ∷ 0 ∷ 0
    ∷ 0 ∷ 0 ∷ 0 ∷ 0 ∷ 0 ∷ 0 ∷ 0 ∷ 0
    ∷ []

-- the header, the places of three nodes, and a free node place
unfoldable pub node_words : List ℕ
node_words =
    3 ∷ 8 ∷ 1 ∷ 1 ∷ 1 ∷ 1 ∷ 1 ∷ 1 ∷ 1 ∷ 1 ∷ 5 ∷ 0 ∷ 0 ∷ 0 ∷ 0 ∷ 0 ∷ 0 ∷ 0 ∷ 0 ∷ 0
    ∷ 10 ∷ 8 ∷ 2 ∷ 2 ∷ 2 ∷ 2 ∷ 2 ∷ 2 ∷ 2 ∷ 3 ∷ 0 ∷ 1 ∷ 1 ∷ 1 ∷ 1 ∷ 1 ∷ 1 ∷ 1 ∷ 1 ∷ 3
    ∷ 20 ∷ 7 ∷ 3 ∷ 3 ∷ 3 ∷ 3 ∷ 3 ∷ 3 ∷ 3 ∷ 0 ∷ 3 ∷ 4 ∷ 4 ∷ 4 ∷ 4 ∷ 4 ∷ 4 ∷ 4 ∷ 4 ∷ 4
    ∷ 50 ∷ 8 ∷ 0 ∷ 0 ∷ 0 ∷ 0 ∷ 0 ∷ 0 ∷ 0 ∷ 0 ∷ 4 ∷ 5 ∷ 5 ∷ 5 ∷ 5 ∷ 5 ∷ 5 ∷ 5 ∷ 5 ∷ 5
    ∷ 0 ∷ 0 ∷ 0 ∷ 0 ∷ 0 ∷ 0 ∷ 0 ∷ 0 ∷ 0 ∷ 0 ∷ 0 ∷ 0 ∷ 0 ∷ 0 ∷ 0 ∷ 0 ∷ 0 ∷ 0 ∷ 0 ∷ 0
    ∷ []

-- band 1 on node 10; bands 1 and 3 on the edge 10-50 of lane 7; band 2 on node 20; band 3 on node 50; two free mark places
unfoldable pub mark_words : List ℕ
mark_words = 1 ∷ 1 ∷ 3 ∷ 2 ∷ 3 ∷ 0 ∷ 0 ∷ []

-- all numbers past 4 are free too
unfoldable pub base : Memory
base = lent (padded (band_places * band_place_words) band_words) node_words mark_words

-- One table with a row or more for each kind of word: each field of a band place, live and free; each header word; a node's key, level, each
-- lane's link and each fence; a mark; a free word of each slice. Each word that `Base` writes out has a row.
-- Assumes nothing.
use Rattle.std.specs.Prelude.{List, [], ◌∷◌, ◌++◌}
use Rattle.store.specs.Places.{live_field, scope_field, low_field, high_field, low_closed_field, high_closed_field, key_field, level_field, link_field, fence_field, header, nodes_in_use_field, lane_count_field, marks_in_use_field}
use Rattle.sharp.specs.Row.{Row, band, node, mark, run}

-- Live band places. Two scopes have no row, since memory stays sound with them: the house's, 64, of a machine's band, and machine 0 of band 3,
-- whose ends are that machine's keys.
abbrev pub live_band_rows : List Row
live_band_rows =
    -- live: no, and a word that is neither 0 nor 1
    band 1 live_field 0
    ∷ band 1 live_field 2
    ∷ band 2 live_field 0
    ∷ band 2 live_field 2
    ∷ band 3 live_field 0
    ∷ band 3 live_field 2
    -- scope: another machine, and above 64
    ∷ band 1 scope_field 1
    ∷ band 1 scope_field 65
    ∷ band 2 scope_field 63
    ∷ band 2 scope_field 65
    ∷ band 3 scope_field 1
    ∷ band 3 scope_field 65
    -- low end: the keys next to it, and other nodes' keys
    ∷ band 1 low_field 9
    ∷ band 1 low_field 11
    ∷ band 1 low_field 20
    ∷ band 1 low_field 50
    ∷ band 2 low_field 19
    ∷ band 2 low_field 21
    ∷ band 2 low_field 10
    ∷ band 2 low_field 50
    ∷ band 3 low_field 9
    ∷ band 3 low_field 11
    ∷ band 3 low_field 20
    ∷ band 3 low_field 50
    -- high end: the same, and a key above the highest
    ∷ band 1 high_field 49
    ∷ band 1 high_field 51
    ∷ band 1 high_field 20
    ∷ band 1 high_field 10
    ∷ band 2 high_field 19
    ∷ band 2 high_field 21
    ∷ band 2 high_field 50
    ∷ band 2 high_field 10
    ∷ band 3 high_field 49
    ∷ band 3 high_field 51
    ∷ band 3 high_field 20
    ∷ band 3 high_field 10
    ∷ band 3 high_field 2097152
    -- low end closed: the other of 0 and 1, and neither
    ∷ band 1 low_closed_field 0
    ∷ band 1 low_closed_field 2
    ∷ band 2 low_closed_field 0
    ∷ band 2 low_closed_field 2
    ∷ band 3 low_closed_field 1
    ∷ band 3 low_closed_field 2
    -- high end closed: the same
    ∷ band 1 high_closed_field 1
    ∷ band 1 high_closed_field 2
    ∷ band 2 high_closed_field 0
    ∷ band 2 high_closed_field 2
    ∷ band 3 high_closed_field 0
    ∷ band 3 high_closed_field 2
    -- the two words of zero
    ∷ run (band 1) 6 2 1
    ++ run (band 2) 6 2 1
    ++ run (band 3) 6 2 1

-- Free band places before the live ones and after them, each field.
abbrev pub free_band_rows : List Row
free_band_rows = run (band 0) 0 8 1 ++ run (band 4) 0 8 1

-- The last band place, free too: its first word, and the last word of all.
abbrev pub last_band_rows : List Row
last_band_rows = band 1023 live_field 1 ∷ band 1023 7 1 ∷ []

-- The header.
abbrev pub header_rows : List Row
header_rows =
    -- nodes in use: one more, one fewer, none
    node header nodes_in_use_field 4
    ∷ node header nodes_in_use_field 2
    ∷ node header nodes_in_use_field 0
    -- the number of lanes: one fewer, one more
    ∷ node header lane_count_field 7
    ∷ node header lane_count_field 9
    -- marks in use: one more, one fewer, none
    ∷ node header marks_in_use_field 6
    ∷ node header marks_in_use_field 4
    ∷ node header marks_in_use_field 0
    -- each lane's first node: the second node's place, none, and a place that is not there
    ∷ run (node header) (link_field 0) 8 2
    ++ run (node header) (link_field 0) 8 0
    ++ run (node header) (link_field 0) 8 5
    -- the nine words of zero
    ++ run (node header) 11 9 1

-- The first node, 10:8.
abbrev pub first_node_rows : List Row
first_node_rows =
    -- key: those next to it, and those of the other nodes
    node 1 key_field 9
    ∷ node 1 key_field 11
    ∷ node 1 key_field 20
    ∷ node 1 key_field 50
    -- level: one lower, none, and above 8
    ∷ node 1 level_field 7
    ∷ node 1 level_field 0
    ∷ node 1 level_field 9
    -- each link: the other node's place, none, its own place, a free place
    ∷ run (node 1) (link_field 0) 7 3
    ++ run (node 1) (link_field 7) 1 2
    ++ run (node 1) (link_field 0) 8 0
    ++ run (node 1) (link_field 0) 8 1
    ++ run (node 1) (link_field 0) 8 4
    -- each fence: one more
    ++ run (node 1) (fence_field 0) 1 1
    ++ run (node 1) (fence_field 1) 8 2
    ++ run (node 1) (fence_field 9) 1 4
    -- each fence above 0: one fewer
    ++ run (node 1) (fence_field 1) 8 0
    ++ run (node 1) (fence_field 9) 1 2

-- The second node, 20:7, which takes no part in lane 7.
abbrev pub second_node_rows : List Row
second_node_rows =
    -- key and level
    node 2 key_field 19
    ∷ node 2 key_field 21
    ∷ node 2 key_field 10
    ∷ node 2 key_field 50
    ∷ node 2 level_field 6
    ∷ node 2 level_field 8
    ∷ node 2 level_field 0
    -- each link: the place before it, none, and one in the lane that it takes no part in
    ∷ run (node 2) (link_field 0) 8 1
    ++ run (node 2) (link_field 0) 7 0
    ++ run (node 2) (link_field 7) 1 3
    -- each fence: one more, one fewer
    ++ run (node 2) (fence_field 0) 1 4
    ++ run (node 2) (fence_field 1) 9 5
    ++ run (node 2) (fence_field 0) 1 2
    ++ run (node 2) (fence_field 1) 9 3

-- The last node, 50:8, whose links lead to nothing.
abbrev pub last_node_rows : List Row
last_node_rows =
    -- key and level
    node 3 key_field 49
    ∷ node 3 key_field 51
    ∷ node 3 key_field 20
    ∷ node 3 key_field 2097152
    ∷ node 3 level_field 7
    ∷ node 3 level_field 0
    ∷ node 3 level_field 9
    -- each link: the first place, a free place
    ∷ run (node 3) (link_field 0) 8 1
    ++ run (node 3) (link_field 0) 8 4
    -- each fence: one more, one fewer
    ++ run (node 3) (fence_field 0) 1 5
    ++ run (node 3) (fence_field 1) 9 6
    ++ run (node 3) (fence_field 0) 1 3
    ++ run (node 3) (fence_field 1) 9 4

-- A free node place, each word.
abbrev pub free_node_rows : List Row
free_node_rows = run (node 4) 0 20 1

abbrev pub mark_rows : List Row
mark_rows =
    -- the other live numbers
    mark 1 2
    ∷ mark 1 3
    ∷ mark 2 2
    ∷ mark 2 3
    ∷ mark 3 1
    ∷ mark 3 2
    ∷ mark 4 1
    ∷ mark 4 3
    ∷ mark 5 1
    ∷ mark 5 2
    -- two numbers that are not live, and one that no band can have
    ∷ run mark 1 5 0
    ++ run mark 1 5 4
    ++ run mark 1 5 1024
    -- free mark places: a live number, and one that is not live
    ++ run mark 6 2 3
    ++ run mark 6 2 4

-- the one table
abbrev pub table : List Row
table =
    live_band_rows ++ free_band_rows ++ last_band_rows ++ header_rows ++ first_node_rows ++ second_node_rows ++ last_node_rows ++ free_node_rows ++ mark_rows

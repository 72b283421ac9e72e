-- "The bench profile", P1 to P10, and "Errors that look right": one table of rows, each a question to the rules with the answer expected.
-- P1 to P10 have the paper's own answers; further rows pin down each error that they leave open, each refusal of each call, and whatever else
-- a wrong definition could hide in. Assumes nothing.
use Rattle.std.specs.Prelude.{true, false, List, [], ◌∷◌, ◌++◌}
use Rattle.std.proofs.Math.Option.{none, some}
use Rattle.rules.specs.HallLine.{Band, house, key_of, first_key, parts_in_range}
use Rattle.rules.specs.NodesLanesEdges.{Node, node_of, edge_of}
use Rattle.rules.specs.Profile.{profile_of, empty_profile, has_number, has_scope}
use Rattle.rules.specs.Room.{room_of}
use Rattle.rules.specs.BoxSaysNo.{band_fault, stab_refusal}
use Rattle.rules.specs.Calls.{emptying, inserting, removing}
use Rattle.rules.specs.BenchProfile.{closed, open_low, open_high, open', call_of, wide, bench, p9, tall, twins, beside, lifted, middle, high, first, first_open, mixed, around, bench260, bench300, next_to, mapped, remapped}
use Rattle.rules.specs.BenchRow.{Row, gives, says, held, is, sound, marks, lane, walked, stab, meets, no_stab, band, no_band, edge, no_edge, node, no_node, in_use, no_in_use, accepted, refused, runs, near, alike, card, turns, no_turn}

-- The bench profile itself, P1 to P10, and what each leaves.
abbrev pub bench_rows : List Row
bench_rows =
    is wide bench
    (closed 1 0 100 400 ∷ open_low 2 0 400 900 ∷ closed 3 0 200 300 ∷ closed 4 0 250 250 ∷ open_high 5 0 100 900 ∷ [])
    (node_of 100 1 ∷ node_of 200 3 ∷ node_of 250 1 ∷ node_of 300 2 ∷ node_of 400 1 ∷ node_of 900 2 ∷ [])
    19
    ∷ marks bench (7 ∷ 2 ∷ 3 ∷ 1 ∷ 6 ∷ []) 19
    ∷ lane bench 1 (edge_of 200 300 ∷ edge_of 300 900 ∷ [])
    ∷ walked bench (closed 1 0 100 400) (0 ∷ 1 ∷ 9 ∷ 11 ∷ 27 ∷ 28 ∷ 36 ∷ [])
    ∷ walked bench (open_low 2 0 400 900) (37 ∷ 45 ∷ [])
    ∷ walked bench (closed 3 0 200 300) (9 ∷ 11 ∷ 27 ∷ [])
    ∷ walked bench (closed 4 0 250 250) (18 ∷ [])
    ∷ walked bench (open_high 5 0 100 900) (0 ∷ 1 ∷ 9 ∷ 11 ∷ 27 ∷ 29 ∷ [])
    -- P1
    ∷ stab bench 99 [] 8
    -- P2
    ∷ stab bench 150 (1 ∷ 5 ∷ []) 9
    -- P3
    ∷ stab bench 250 (1 ∷ 3 ∷ 4 ∷ 5 ∷ []) 9
    -- P4
    ∷ stab bench 300 (1 ∷ 3 ∷ 5 ∷ []) 10
    -- P5
    ∷ stab bench 400 (1 ∷ 5 ∷ []) 10
    -- P6: an edge that ends at 900 bears band 5, which is open there
    ∷ stab bench 900 (2 ∷ []) 11
    -- P7
    ∷ stab bench 1000 [] 11
    -- P8: nodes 200 and 300 go, 14 marks stay
    ∷ accepted wide bench (removing 3 0)
    (closed 1 0 100 400 ∷ open_low 2 0 400 900 ∷ closed 4 0 250 250 ∷ open_high 5 0 100 900 ∷ [])
    (node_of 100 1 ∷ node_of 250 1 ∷ node_of 400 1 ∷ node_of 900 2 ∷ [])
    14
    -- P9: 8 marks; removing [40,40] needs 9, so with room for 8 it is refused
    ∷ is (room_of 5 8) (p9 (room_of 5 8))
    (closed 1 0 10 50 ∷ closed 2 0 20 20 ∷ closed 3 0 30 30 ∷ closed 4 0 40 40 ∷ [])
    (node_of 10 2 ∷ node_of 20 1 ∷ node_of 30 1 ∷ node_of 40 2 ∷ node_of 50 1 ∷ [])
    8
    ∷ accepted (room_of 5 9) (p9 wide) (removing 4 0)
    (closed 1 0 10 50 ∷ closed 2 0 20 20 ∷ closed 3 0 30 30 ∷ [])
    (node_of 10 2 ∷ node_of 20 1 ∷ node_of 30 1 ∷ node_of 50 1 ∷ [])
    9
    ∷ refused (room_of 5 8) (p9 (room_of 5 8)) (removing 4 0) 12
    -- P10: 2,097,151 is taken, as a band's end and by a stab; 2,097,152 is refused by 4 in both
    ∷ accepted wide empty_profile (inserting (closed 0 63 2097000 2097151) 1 1)
    (closed 0 63 2097000 2097151 ∷ [])
    (node_of 2097000 1 ∷ node_of 2097151 1 ∷ [])
    3
    ∷ refused wide empty_profile (inserting (closed 0 63 2097000 2097152) 1 1) 4
    ∷ stab bench 2097151 [] 11
    ∷ no_stab true bench 2097152 4
    ∷ []

-- A row for each error that looks right and that the ten leave open. (Taking marks of an edge that ends at K is P6's.)
abbrev pub error_rows : List Row
error_rows =
    -- clearing a node's mark when one edge beside it loses its mark, though the other still bears it
    node beside 30 2 (1 ∷ 2 ∷ [])
    ∷ edge beside 10 0 (some 30) (1 ∷ [])
    ∷ edge beside 30 0 (some 40) (1 ∷ 2 ∷ [])
    ∷ edge lifted 30 0 (some 40) (2 ∷ [])
    ∷ edge lifted 30 1 (some 60) (1 ∷ [])
    ∷ edge lifted 10 0 (some 30) (1 ∷ [])
    ∷ node lifted 30 2 (1 ∷ 2 ∷ [])
    -- marking equal stretches in two lanes; a search then meets the band twice
    ∷ marks twins (3 ∷ []) 3
    ∷ stab twins 20 (1 ∷ []) 9
    ∷ edge twins 10 2 (some 50) (1 ∷ [])
    ∷ edge twins 10 1 (some 50) []
    -- dropping a node when one of several bands ending there is removed
    ∷ accepted wide bench (removing 1 0)
    (open_low 2 0 400 900 ∷ closed 3 0 200 300 ∷ closed 4 0 250 250 ∷ open_high 5 0 100 900 ∷ [])
    (node_of 100 1 ∷ node_of 200 3 ∷ node_of 250 1 ∷ node_of 300 2 ∷ node_of 400 1 ∷ node_of 900 2 ∷ [])
    12
    -- refusing 12 in the middle of a change that fits at its end: from 9 marks to 8 with room for 9
    ∷ accepted (room_of 5 9) (call_of wide (p9 wide) (removing 4 0)).after (inserting (closed 4 0 40 40) 2 2)
    (closed 1 0 10 50 ∷ closed 2 0 20 20 ∷ closed 3 0 30 30 ∷ closed 4 0 40 40 ∷ [])
    (node_of 10 2 ∷ node_of 20 1 ∷ node_of 30 1 ∷ node_of 40 2 ∷ node_of 50 1 ∷ [])
    8
    -- a wrong highest lane
    ∷ marks tall (3 ∷ 1 ∷ []) 4
    ∷ edge tall 10 7 (some 50) (1 ∷ [])
    ∷ stab tall 20 (1 ∷ 2 ∷ []) 9
    ∷ stab tall 30 (1 ∷ []) 10
    ∷ stab tall 60 [] 10
    -- lanes in the middle
    ∷ marks middle (3 ∷ 1 ∷ []) 4
    ∷ stab middle 20 (1 ∷ 2 ∷ []) 9
    ∷ marks high (3 ∷ 3 ∷ []) 6
    ∷ stab high 20 (1 ∷ []) 9
    ∷ stab high 60 (2 ∷ []) 10
    -- the header's links bear no marks, also before a node at key 0
    ∷ stab first 0 (1 ∷ []) 8
    ∷ stab first 5 (1 ∷ []) 9
    ∷ stab first_open 0 [] 8
    ∷ stab first_open 5 (1 ∷ []) 9
    -- nodes of one level hide none of each other
    ∷ stab (call_of wide (p9 wide) (removing 4 0)).after 60 [] 12
    -- the count is of flags and marks met of marks: two bands of one number, which no sound profile has, tell them apart
    ∷ meets (profile_of (closed 1 0 1 9 ∷ closed 1 0 1 9 ∷ []) (node_of 1 1 ∷ node_of 9 1 ∷ [])) 5 (1 ∷ []) 1 2 9
    ∷ []

-- Keys, and which of them a band holds.
abbrev pub key_rows : List Row
key_rows =
    gives (key_of 2 3 5) 68613
    ∷ gives (key_of 63 31 1023) 2097151
    ∷ gives (first_key 2) 65536
    ∷ says (parts_in_range 63 31 1023) true
    ∷ says (parts_in_range 64 0 0) false
    ∷ says (parts_in_range 0 32 0) false
    ∷ says (parts_in_range 0 0 1024) false
    ∷ held (open' 0 house 3 4) (2 ∷ 3 ∷ 4 ∷ 5 ∷ []) []
    ∷ held (open' 0 house 3 5) (2 ∷ 3 ∷ 4 ∷ 5 ∷ []) (4 ∷ [])
    ∷ held (closed 0 house 7 7) (6 ∷ 7 ∷ 8 ∷ []) (7 ∷ [])
    ∷ held (open_high 0 house 3 5) (2 ∷ 3 ∷ 4 ∷ 5 ∷ 6 ∷ []) (3 ∷ 4 ∷ [])
    ∷ held (open_low 0 house 3 5) (2 ∷ 3 ∷ 4 ∷ 5 ∷ 6 ∷ []) (4 ∷ 5 ∷ [])
    ∷ held (closed 0 house 0 2) (0 ∷ 1 ∷ 2 ∷ 3 ∷ []) (0 ∷ 1 ∷ 2 ∷ [])
    ∷ held (closed 0 house 5 3) (2 ∷ 3 ∷ 4 ∷ 5 ∷ 6 ∷ []) []
    ∷ gives (band_fault (open' 0 house 3 4)) 5
    ∷ gives (band_fault (open_high 0 house 0 0)) 5
    ∷ gives (band_fault (open_high 0 house 5 5)) 5
    ∷ gives (band_fault (open_low 0 house 5 5)) 5
    ∷ gives (band_fault (open' 0 house 5 5)) 5
    ∷ gives (band_fault (closed 0 house 9 3)) 5
    ∷ gives (band_fault (open_low 0 house 4 5)) 0
    ∷ gives (band_fault (open_high 0 house 4 5)) 0
    ∷ gives (band_fault (open' 0 house 3 5)) 0
    ∷ gives (band_fault (closed 0 1 32768 65535)) 0
    ∷ gives (band_fault (open_high 0 1 32768 65536)) 6
    ∷ gives (band_fault (open_low 0 1 32767 32770)) 6
    ∷ gives (band_fault (closed 0 40 0 1)) 6
    ∷ []

-- Readouts, and each refusal of stab and readouts with its zeros.
abbrev pub read_rows : List Row
read_rows =
    band bench (open_low 2 0 400 900)
    ∷ band mixed (open_high 1023 house 5 32768)
    ∷ band mixed (closed 0 1 32768 65535)
    ∷ no_band true bench 6 9
    ∷ no_band true bench 1024 3
    ∷ no_band false bench 1024 1
    ∷ no_band false bench 2 1
    ∷ edge bench 200 1 (some 300) (1 ∷ 3 ∷ 5 ∷ [])
    ∷ edge bench 200 2 none []
    ∷ edge middle 10 2 (some 50) (1 ∷ [])
    ∷ edge first 0 0 (some 9) (1 ∷ [])
    ∷ no_edge true bench 150 0 13
    ∷ no_edge true bench 200 3 13
    ∷ no_edge true tall 10 8 13
    ∷ no_edge true bench 2097152 8 4
    ∷ no_edge false bench 2097152 0 1
    ∷ no_edge false bench 200 1 1
    ∷ node bench 900 2 (2 ∷ [])
    ∷ node bench 250 1 (4 ∷ [])
    ∷ node bench 200 3 (1 ∷ 3 ∷ 5 ∷ [])
    ∷ node middle 20 2 (2 ∷ [])
    ∷ no_node true bench 150 13
    ∷ no_node true bench 2097152 4
    ∷ no_node false bench 2097152 1
    ∷ no_node false bench 200 1
    ∷ in_use bench 6 19
    ∷ in_use empty_profile 0 0
    ∷ no_in_use bench 1
    ∷ no_stab false bench 300 1
    ∷ no_stab false bench 2097152 1
    ∷ gives (stab_refusal true 2097151) 0
    ∷ stab mixed 32767 (1023 ∷ []) 9
    ∷ stab mixed 32768 (0 ∷ []) 9
    ∷ stab mixed 65535 (0 ∷ 100 ∷ []) 10
    ∷ []

-- Each refusal of each change, on arguments that mostly break a later rule too: the first line that applies is given, which has the lowest number.
abbrev pub refusal_rows : List Row
refusal_rows =
    accepted (room_of 5 19) bench emptying [] [] 0
    ∷ refused (room_of 0 16384) bench emptying 1
    ∷ refused (room_of 0 16384) empty_profile (inserting (closed 1 65 1 2) 1 1) 1
    ∷ refused (room_of 2049 16384) empty_profile (inserting (closed 1 65 1 2) 1 1) 1
    ∷ refused (room_of 2048 0) empty_profile (inserting (closed 1 65 1 2) 1 1) 1
    ∷ refused (room_of 2048 16385) empty_profile (removing 1 65) 1
    ∷ refused wide (profile_of (closed 1 0 1 2 ∷ []) []) (inserting (closed 1 65 1 2) 1 1) 1
    ∷ refused wide (profile_of (closed 1 0 1 2 ∷ []) []) (removing 1 65) 1
    ∷ refused (room_of 5 19) bench (inserting (closed 6 0 3 9) 1 1) 1
    ∷ refused (room_of 6 18) bench (removing 3 0) 1
    ∷ refused wide bench (inserting (closed 1024 65 9 3) 0 9) 2
    ∷ refused wide bench (inserting (closed 1024 0 9 2097152) 0 9) 3
    ∷ refused wide bench (inserting (closed 6 0 2097152 3) 0 9) 4
    ∷ refused wide bench (inserting (open' 6 1 3 4) 0 9) 5
    ∷ refused wide bench (inserting (open_high 6 0 0 0) 1 1) 5
    ∷ refused wide bench (inserting (closed 6 1 32768 65536) 0 9) 6
    ∷ refused wide bench (inserting (open' 6 1 32767 32770) 0 9) 6
    ∷ refused wide bench (inserting (closed 1 0 100 100) 1 0) 7
    ∷ refused wide bench (inserting (closed 1 0 100 100) 9 1) 7
    ∷ refused wide bench (inserting (closed 1 0 100 100) 0 1) 7
    ∷ refused wide bench (inserting (closed 1 0 100 100) 1 9) 7
    ∷ refused (room_of 6 19) bench (inserting (closed 1 0 3 9) 1 1) 8
    ∷ refused wide mixed (inserting (closed 0 64 3 9) 1 1) 8
    ∷ refused (room_of 7 19) bench (inserting (closed 6 0 3 9) 1 1) 11
    ∷ refused (room_of 8 21) bench (inserting (closed 6 0 3 9) 1 1) 12
    ∷ refused wide bench (removing 1024 65) 2
    ∷ refused wide bench (removing 1024 0) 3
    ∷ refused wide bench (removing 6 1) 9
    ∷ refused wide bench (removing 3 1) 10
    ∷ refused wide mixed (removing 0 64) 10
    ∷ refused wide mixed (removing 100 1) 10
    ∷ refused (room_of 5 8) (p9 (room_of 5 8)) (removing 4 1) 10
    ∷ []

-- Calls that just fit, and what they leave.
abbrev pub accepted_rows : List Row
accepted_rows =
    is (room_of 1 1) empty_profile [] [] 0
    ∷ accepted (room_of 1 1) empty_profile (inserting (closed 0 0 0 0) 1 1) (closed 0 0 0 0 ∷ []) (node_of 0 1 ∷ []) 1
    ∷ accepted wide empty_profile (inserting (open' 1 0 3 5) 1 1) (open' 1 0 3 5 ∷ []) (node_of 3 1 ∷ node_of 5 1 ∷ []) 1
    ∷ accepted wide empty_profile (inserting (closed 1023 house 32767 32768) 8 1)
    (closed 1023 house 32767 32768 ∷ [])
    (node_of 32767 8 ∷ node_of 32768 1 ∷ [])
    3
    ∷ accepted (room_of 8 22) bench (inserting (closed 6 0 3 9) 4 1)
    (closed 1 0 100 400 ∷ open_low 2 0 400 900 ∷ closed 3 0 200 300 ∷ closed 4 0 250 250 ∷ open_high 5 0 100 900 ∷ closed 6 0 3 9 ∷ [])
    (node_of 3 4 ∷ node_of 9 1 ∷ node_of 100 1 ∷ node_of 200 3 ∷ node_of 250 1 ∷ node_of 300 2 ∷ node_of 400 1 ∷ node_of 900 2 ∷ [])
    22
    ∷ is wide mixed
    (closed 0 1 32768 65535 ∷ open' 100 house 32768 70000 ∷ open_high 1023 house 5 32768 ∷ [])
    (node_of 5 2 ∷ node_of 32768 1 ∷ node_of 65535 1 ∷ node_of 70000 4 ∷ [])
    8
    ∷ accepted wide mixed (removing 0 1)
    (open' 100 house 32768 70000 ∷ open_high 1023 house 5 32768 ∷ [])
    (node_of 5 2 ∷ node_of 32768 1 ∷ node_of 70000 4 ∷ [])
    3
    ∷ accepted wide tall (removing 2 0) (closed 1 0 10 50 ∷ []) (node_of 10 8 ∷ node_of 50 8 ∷ []) 3
    ∷ accepted wide tall (inserting (closed 3 0 5 10) 8 1)
    (closed 1 0 10 50 ∷ closed 2 0 20 20 ∷ closed 3 0 5 10 ∷ [])
    (node_of 5 8 ∷ node_of 10 8 ∷ node_of 20 7 ∷ node_of 50 8 ∷ [])
    7
    -- two nodes made, or dropped, by one call do not bound each other's reach
    ∷ accepted wide around (inserting (closed 3 0 200 300) 2 2)
    (closed 1 0 100 400 ∷ closed 3 0 200 300 ∷ [])
    (node_of 100 1 ∷ node_of 200 2 ∷ node_of 300 2 ∷ node_of 400 1 ∷ [])
    10
    ∷ accepted wide (call_of wide around (inserting (closed 3 0 200 300) 2 2)).after (removing 3 0)
    (closed 1 0 100 400 ∷ [])
    (node_of 100 1 ∷ node_of 400 1 ∷ [])
    3
    ∷ []

-- What makes a profile sound: one band [1,2] on its two nodes, and each way to spoil it.
abbrev pub one_band : Band
one_band = closed 1 0 1 2

abbrev pub two_nodes : List Node
two_nodes = node_of 1 1 ∷ node_of 2 1 ∷ []

abbrev pub sound_rows : List Row
sound_rows =
    sound wide (profile_of (one_band ∷ []) two_nodes) true
    ∷ sound (room_of 2 3) (profile_of (one_band ∷ []) two_nodes) true
    ∷ sound (room_of 1 3) (profile_of (one_band ∷ []) two_nodes) false
    ∷ sound (room_of 2 2) (profile_of (one_band ∷ []) two_nodes) false
    ∷ sound (room_of 2049 3) (profile_of (one_band ∷ []) two_nodes) false
    ∷ sound (room_of 2 16385) (profile_of (one_band ∷ []) two_nodes) false
    ∷ sound wide (profile_of (one_band ∷ []) (node_of 1 1 ∷ [])) false
    ∷ sound wide (profile_of (one_band ∷ []) (node_of 2 1 ∷ [])) false
    ∷ sound wide (profile_of [] (node_of 2 1 ∷ [])) false
    ∷ sound wide (profile_of (one_band ∷ []) (node_of 2 1 ∷ node_of 1 1 ∷ [])) false
    ∷ sound wide (profile_of (one_band ∷ []) (node_of 1 1 ∷ node_of 1 1 ∷ node_of 2 1 ∷ [])) false
    ∷ sound wide (profile_of (one_band ∷ []) (node_of 1 0 ∷ node_of 2 1 ∷ [])) false
    ∷ sound wide (profile_of (one_band ∷ []) (node_of 1 1 ∷ node_of 2 9 ∷ [])) false
    ∷ sound wide (profile_of (one_band ∷ one_band ∷ []) two_nodes) false
    ∷ sound wide (profile_of (closed 2 0 1 2 ∷ one_band ∷ []) two_nodes) false
    ∷ sound wide (profile_of (closed 1 65 1 2 ∷ []) two_nodes) false
    ∷ sound wide (profile_of (closed 1024 0 1 2 ∷ []) two_nodes) false
    ∷ sound wide (profile_of (open' 1 0 1 2 ∷ []) two_nodes) false
    ∷ sound wide (profile_of (closed 1 1 1 2 ∷ []) two_nodes) false
    ∷ []

-- What a call can reach.
abbrev pub reach_rows : List Row
reach_rows =
    runs bench.nodes (node_of 260 2) 200 300
    ∷ runs bench.nodes (node_of 260 3) 200 2097151
    ∷ runs bench.nodes (node_of 150 2) 0 200
    ∷ runs bench.nodes (node_of 260 8) 0 2097151
    -- other bands lose their marks, or gain some
    ∷ near (has_number 3) bench (profile_of [] bench.nodes) false
    ∷ near (has_number 3) (profile_of [] bench.nodes) bench false
    -- a call may change its own band's marks anywhere
    ∷ near (has_number 1) (profile_of (one_band ∷ []) two_nodes) (profile_of [] two_nodes) true
    -- only a node mark is lost; only an edge mark of lane 2
    ∷ near (has_number 0) twins (profile_of (open_low 1 0 10 50 ∷ []) twins.nodes) false
    ∷ near (has_number 0) (profile_of (open' 1 0 10 50 ∷ []) twins.nodes) (profile_of [] twins.nodes) false
    -- a node of level 2 made at 260 reaches from 200 to 300: edges 200-250 and 250-300 and node 250, and nothing else
    ∷ near (has_number 0) (profile_of (open' 1 0 300 400 ∷ []) bench.nodes) (profile_of [] bench260) false
    ∷ near (has_number 0) (profile_of (open' 1 0 100 200 ∷ []) bench.nodes) (profile_of [] bench260) false
    ∷ near (has_number 0) (profile_of (closed 1 0 300 300 ∷ []) bench.nodes) (profile_of [] bench260) false
    ∷ near (has_number 0) (profile_of (closed 1 0 200 200 ∷ []) bench.nodes) (profile_of [] bench260) false
    ∷ near (has_number 0) (profile_of (closed 1 0 250 250 ∷ []) bench.nodes) (profile_of [] bench260) true
    ∷ near (has_number 0) (profile_of (open' 1 0 200 250 ∷ []) bench.nodes) (profile_of [] bench260) true
    -- a node made again with another level reaches what its level reached
    ∷ near (has_number 0) bench (profile_of bench.bands bench300) true
    -- where machine 1's bands go and another of its bands comes in, those of machine 0 and of the house keep their marks, and machine 1's do not
    ∷ near (has_scope 1) mapped remapped true
    ∷ near (has_number 5) mapped remapped false
    ∷ near (has_scope 1) mapped (profile_of (open_low 1 0 100 400 ∷ closed 4 house 32768 40000 ∷ open_high 5 1 32768 40000 ∷ []) remapped.nodes) false
    -- a node next to the key at which a reach begins is strictly inside it: without node 12, node 11 bears band 1
    ∷ accepted wide next_to (removing 3 0) (closed 1 0 10 20 ∷ closed 2 0 11 11 ∷ []) (node_of 10 2 ∷ node_of 11 1 ∷ node_of 20 1 ∷ []) 6
    -- looks at machine 1's keys may change by a call of machine 0
    ∷ stab bench 40000 [] 11
    ∷ stab (call_of wide bench (inserting (closed 6 0 950 950) 8 8)).after 40000 [] 9
    ∷ alike bench (call_of wide bench (inserting (closed 6 0 950 950) 8 8)).after 40000 true
    -- answers at a key of machine 0
    ∷ alike bench (call_of wide bench (inserting (closed 6 1 32768 65535) 8 8)).after 250 true
    ∷ alike bench (call_of wide bench (inserting (closed 6 house 0 65535) 8 8)).after 250 false
    ∷ alike bench (call_of wide bench (removing 4 0)).after 250 false
    ∷ []

-- The bench card: the key first, with place 0; each record by 2 to 6; a number that stands twice by 8, at the later place.
abbrev pub card_rows : List Row
card_rows =
    card bench.bands 250 0 0 (1 ∷ 3 ∷ 4 ∷ 5 ∷ [])
    ∷ card bench.bands 900 0 0 (2 ∷ [])
    ∷ card mixed.bands 65535 0 0 (0 ∷ 100 ∷ [])
    ∷ card [] 2097151 0 0 []
    ∷ card (open' 1 0 3 4 ∷ []) 2097152 4 0 []
    ∷ card (closed 1 house 0 2097152 ∷ []) 2097152 4 0 []
    ∷ card (closed 1 0 3 9 ∷ closed 2 0 3 9 ∷ closed 3 65 4 9 ∷ []) 5 2 3 []
    ∷ card (closed 1 0 3 9 ∷ closed 1024 0 3 9 ∷ []) 5 3 2 []
    ∷ card (closed 1 0 3 2097152 ∷ []) 5 4 1 []
    ∷ card (closed 1 0 3 9 ∷ open' 1 0 3 4 ∷ closed 1 65 3 9 ∷ []) 5 5 2 []
    ∷ card (closed 1 1 3 9 ∷ []) 5 6 1 []
    ∷ card (closed 1 0 3 9 ∷ closed 2 0 3 9 ∷ closed 1 0 4 9 ∷ []) 5 8 3 []
    ∷ card (closed 0 house 3 9 ∷ closed 0 house 3 9 ∷ []) 5 8 2 []
    ∷ []

-- The wheel of levels: where its rule changes, at both its ends, and off them.
abbrev pub wheel_rows : List Row
wheel_rows =
    turns 1 1 2
    ∷ turns 2 2 3
    ∷ turns 4 3 5
    ∷ turns 12 3 13
    ∷ turns 64 7 65
    ∷ turns 128 8 129
    ∷ turns 256 8 257
    ∷ turns 1023 1 1024
    ∷ turns 1024 8 1
    ∷ no_turn 0 7
    ∷ no_turn 1025 7
    ∷ []

-- the one table
abbrev pub table : List Row
table =
    bench_rows ++ error_rows ++ key_rows ++ read_rows ++ refusal_rows ++ accepted_rows ++ sound_rows ++ reach_rows ++ card_rows ++ wheel_rows

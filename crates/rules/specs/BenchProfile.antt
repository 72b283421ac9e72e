-- "The bench profile": the profiles of the paper's worked examples, each come to by calls from an empty one.
-- Assumes nothing.
use Rattle.std.specs.Prelude.{ℕ, true, false, List, [], ◌∷◌}
use Rattle.rules.specs.HallLine.{Band, band_of, house}
use Rattle.rules.specs.NodesLanesEdges.{Node, node_of, with_node}
use Rattle.rules.specs.Profile.{Profile, empty_profile}
use Rattle.rules.specs.Room.{Room, room_of, room_in_range}
use Rattle.rules.specs.BoxSaysNo.{Change}
use Rattle.rules.specs.SoundMemory.{sound_in}
use Rattle.rules.specs.Calls.{Call, inserting, removing}
use Rattle.rules.specs.RuledCalls.{call_outcome, ruled_after_calls}

-- bands by how their ends are written: [l,h], (l,h], [l,h) and (l,h)
abbrev pub closed : ℕ → ℕ → ℕ → ℕ → Band
closed n s l h = band_of n s l h true true

abbrev pub open_low : ℕ → ℕ → ℕ → ℕ → Band
open_low n s l h = band_of n s l h false true

abbrev pub open_high : ℕ → ℕ → ℕ → ℕ → Band
open_high n s l h = band_of n s l h true false

abbrev pub open' : ℕ → ℕ → ℕ → ℕ → Band
open' n s l h = band_of n s l h false false

-- what a call comes to in a memory of that room that holds the profile
abbrev pub call_of : Room → Profile → Call → Change Profile
call_of room p c = call_outcome (room_in_range room) (sound_in room p) room p c

abbrev pub wide : Room
wide = room_of 2048 16384

-- Bands 1 [100,400], 2 (400,900], 3 [200,300], 4 [250,250], 5 [100,900). Levels 100:1, 200:3, 250:1, 300:2, 400:1, 900:2.
-- They come in mixed order. Levels given for ends that stand already, and for the high end of a one-key band, are not the node's own, on purpose.
abbrev pub bench : Profile
bench =
    ruled_after_calls wide empty_profile
    (inserting (open_high 5 0 100 900) 1 2
    ∷ inserting (closed 3 0 200 300) 3 2
    ∷ inserting (closed 1 0 100 400) 8 1
    ∷ inserting (closed 4 0 250 250) 1 6
    ∷ inserting (open_low 2 0 400 900) 7 5
    ∷ [])

-- P9: bands [10,50], [20,20], [30,30], [40,40], levels 10:2, 20:1, 30:1, 40:2, 50:1. [40,40] comes before [30,30], so that no step needs more than 8 marks
abbrev pub p9 : Room → Profile
p9 room =
    ruled_after_calls room empty_profile
    (inserting (closed 1 0 10 50) 2 1
    ∷ inserting (closed 2 0 20 20) 1 1
    ∷ inserting (closed 4 0 40 40) 2 2
    ∷ inserting (closed 3 0 30 30) 1 1
    ∷ [])

-- two tall neighbours with one almost as tall between them
abbrev pub tall : Profile
tall = ruled_after_calls wide empty_profile (inserting (closed 1 0 10 50) 8 8 ∷ inserting (closed 2 0 20 20) 7 7 ∷ [])

-- one stretch that is an edge in three lanes
abbrev pub twins : Profile
twins = ruled_after_calls wide empty_profile (inserting (closed 1 0 10 50) 3 3 ∷ [])

-- band 1 is marked on node 30 and on both edges beside it ..
abbrev pub beside : Profile
beside = ruled_after_calls wide empty_profile (inserting (closed 1 0 10 90) 1 1 ∷ inserting (closed 2 0 30 40) 2 1 ∷ [])

-- .. until a node of level 2 at 60 lifts the mark of edge 30-40 to lane 1; edge 10-30 still bears it
abbrev pub lifted : Profile
lifted = ruled_after_calls wide beside (inserting (closed 3 0 60 60) 2 2 ∷ [])

-- a node of level 2 between two of level 3
abbrev pub middle : Profile
middle = ruled_after_calls wide empty_profile (inserting (closed 1 0 10 50) 3 3 ∷ inserting (closed 2 0 20 20) 2 2 ∷ [])

-- marks in lanes 3 and 4
abbrev pub high : Profile
high = ruled_after_calls wide empty_profile (inserting (closed 1 0 10 50) 5 5 ∷ inserting (closed 2 0 50 90) 4 4 ∷ [])

-- a node at the first key of the line, lower than the next; the band closed there, and open there
abbrev pub first : Profile
first = ruled_after_calls wide empty_profile (inserting (closed 1 0 0 9) 1 2 ∷ [])

abbrev pub first_open : Profile
first_open = ruled_after_calls wide empty_profile (inserting (open_low 1 0 0 9) 1 2 ∷ [])

-- machine and house scopes, numbers 0 and 1,023 and one in the second flag word, a band open at both ends
abbrev pub mixed : Profile
mixed =
    ruled_after_calls wide empty_profile
    (inserting (closed 0 1 32768 65535) 1 1
    ∷ inserting (open' 100 house 32768 70000) 3 4
    ∷ inserting (open_high 1023 house 5 32768) 2 2
    ∷ [])

-- a band around a stretch in which one call makes two nodes
abbrev pub around : Profile
around = ruled_after_calls wide empty_profile (inserting (closed 1 0 100 400) 1 1 ∷ [])

-- the bench profile's nodes and one of level 2 made at 260
abbrev pub bench260 : List Node
bench260 = with_node 260 2 bench.nodes

-- the bench profile's nodes with 300 of level 1
abbrev pub bench300 : List Node
bench300 = node_of 100 1 ∷ node_of 200 3 ∷ node_of 250 1 ∷ node_of 300 1 ∷ node_of 400 1 ∷ node_of 900 2 ∷ []

-- a node between two taller ones, next to the first
abbrev pub next_to : Profile
next_to =
    ruled_after_calls wide empty_profile
    (inserting (closed 1 0 10 20) 2 1 ∷ inserting (closed 2 0 11 11) 1 1 ∷ inserting (closed 3 0 12 12) 2 2 ∷ [])

-- two bands of machine 1, a house band that ends where one of them does, and a band of machine 0 ..
abbrev pub mapped : Profile
mapped =
    ruled_after_calls wide empty_profile
    (inserting (closed 1 0 100 400) 1 1
    ∷ inserting (closed 2 1 32768 40000) 2 2
    ∷ inserting (closed 3 1 33000 34000) 1 2
    ∷ inserting (closed 4 house 32768 40000) 1 1
    ∷ [])

-- .. and the same with another band in place of machine 1's two
abbrev pub remapped : Profile
remapped = ruled_after_calls wide mapped (removing 2 1 ∷ removing 3 1 ∷ inserting (open_high 5 1 32768 40000) 1 1 ∷ [])

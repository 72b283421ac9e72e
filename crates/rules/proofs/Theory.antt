-- The theory of lanes and marks: what follows from the rules on any standing profile. It knows neither code nor memory. In the order in which
-- the laws build on each other:
--   EdgesNest         of two edges that overlap, that of the higher lane contains the other; a lane's edges lie end to end
--   EdgesOut          the edges of a lane are those that lead out of its nodes, each out of one node only
--   Passed            nodes below a key that are passed on the way to it, and those ahead
--   LocalMarks        a mark by looking at one edge alone: that of the next lane, or the lowest over the node
--   MarksInUse        marks in use, the bands' own counts together, are all edge and node marks
--   OverInLane        one band in one lane: marked over a key at most once, where no higher lane has an edge over the key inside the band
--   OverOnce          one band: marked once over a key that it holds, and never over another
--   SearchReaches     the search drops each lane at its last node below the key, where the edge ahead is the lane's edge over the key
--   SearchTakes       so the search takes what is marked over the key
--   LooksAreSteps     the search steps onto as many nodes as the looks count
--   MarkedOver        what is marked over a key, counted band by band
--   MetOnce           the search meets each band that holds the key once, and no other; flags, count and marks met
--   Links             the marked links of a node
--   MarkedSlots       a band's marked slots are the rule's marks: each once, in order, as many
--   Stops             the stops and stairs of a band's staircase
--   HighestStair      the highest stair out of a node is found
--   Staircase         the walk by the highest edge inside the band visits exactly the marked slots
--   StandingKept      a standing profile stays standing, and a sound one sound, whatever the call
--   NodesPerBand      a standing profile has at most a band for each number and two nodes for each band, so its nodes fit the largest room
--   RemoveRefusals    a remove can be refused by 12 and never by 11
--   OneBand           into an empty profile a right one-key band goes in, and out again, in every room
--   Lives             a number of no band that has come or gone reads the same; a live band is read as it is
--   Reaches           edges in no reach and their marks are the same before and after, for any two ascending lists of nodes; nodes too
--   ReachesOfCalls    so of two standing profiles; bands that a change leaves keep their marks outside its reaches, and every call leaves all but its own
--   MarksRead         a mark is read exactly where it stands, so what is kept outside the reaches is kept in what is read
--   LevelsStay        a node that stands before and after keeps its level, by the node readout
--   Alone             a machine's call leaves flags, count and marks met alone at every other machine's keys
pub mod EdgesNest
pub mod EdgesOut
pub mod Passed
pub mod LocalMarks
pub mod MarksInUse
pub mod OverInLane
pub mod OverOnce
pub mod SearchReaches
pub mod SearchTakes
pub mod LooksAreSteps
pub mod MarkedOver
pub mod MetOnce
pub mod Links
pub mod MarkedSlots
pub mod Stops
pub mod HighestStair
pub mod Staircase
pub mod StandingKept
pub mod NodesPerBand
pub mod RemoveRefusals
pub mod OneBand
pub mod Lives
pub mod Reaches
pub mod ReachesOfCalls
pub mod MarksRead
pub mod LevelsStay
pub mod Alone

-- The paper as definitions, under its own headings and in its words:
--   "What is built"                        Profile, Changes, Readouts, Calls, RuledCalls
--   "The hall line" (keys, bands)          HallLine
--   "Nodes, lanes, edges"                  NodesLanesEdges
--   "Marks"                                Marks
--   "The search"                           Search, Flags
--   "Sound memory"                         SoundMemory, Room
--   "When the box says no"                 BoxSaysNo, BenchCard
--   "What one call can reach"              Reach
--   "The bench profile"                    BenchProfile, BenchRow, BenchTable
--   "Errors that look right"               BenchTable
-- and what was requested after it:
--   "A wheel of levels"                    Wheel
--   "1,023 is an unplugged cable"          OpenLine
-- Connectives and Lists have the plain tests that they are worded with. Staircase is not the paper's: it has one band's marks slot by slot,
-- and the walk by which code finds them. What the paper says of words in memory (places, which of them are
-- free, the likeness of two memories) is not here: these rules know no memory.
-- A definition marked `unfoldable` stays shut until a proof opens it by name, and `Computes` opens them all; an `abbrev` is always open.
-- "Assumes nothing" at the head of a file says that it uses no axiom, and no hypothesis but those that each statement writes out.
pub mod Connectives
pub mod Lists
pub mod HallLine
pub mod OpenLine
pub mod NodesLanesEdges
pub mod Profile
pub mod Marks
pub mod Staircase
pub mod Flags
pub mod Search
pub mod Changes
pub mod Readouts
pub mod Calls
pub mod Room
pub mod BoxSaysNo
pub mod RuledCalls
pub mod SoundMemory
pub mod BenchCard
pub mod Wheel
pub mod Reach
pub mod BenchProfile
pub mod BenchRow
pub mod BenchTable
pub mod Computes

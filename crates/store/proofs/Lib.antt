-- What holds of the lent memory as words, for every profile and room:
--   Copied         words copied over others
--   NodeFields     a field of a node place stored
--   RightSizes     which lengths are right, and which room they make
--   Memory         two memories are the same
--   SaidBands, SaidNodes    the bands and the nodes that any words say, place by place
--   Between        the words past one count, up to another
--   Lays           what node and mark words that lay a profile say at each place, and that they say its nodes
--   LaidBands, LaidNodes, LaidMarks    the words of a profile
--   WithBand       .. and the band words once one number is laid anew
--   LaidLays       .. so they lay it
--   NodeWords      .. and are the only words of their length with those fields
--   NamesNoBand    header and node places name no band, and a mark place holds only a number
--   LaidEmpty      the words of the empty profile
--   Sound          sound memory in plain facts, and that two of the same lengths and profile are equal
--   LaidSound      what is laid is sound and says the profile: each that stands and fits has such a memory
--   SaidStands     the profile that sound memory says stands, and fits its room
--   ChangeIn       what is so of every change of memory
--   SoundFirst     a change that asks for sound memory: the line by which it is judged first, and that it owes what every change does
--   JudgedFirst    a change that lines judge before it is made ready: what those give stands, or 11 and 12 decide
--   ToldBack       what the outcome of a call that changes says tells it back
--   LentWords      what a call that is lent memory is given, as promises speak of it
--   OnlyAsked      what meets the promise of a call that only asks tells what is due, and leaves the words that it was lent
--   MemoryExample  the example of docs/MEMORY.md
--   LinkMarks      the marks of a link's slot are those of the edge there
--   NextInLane     the next node of a lane, as the links and as the paper's search know it
--   LinksLead      tests of the node that a link leads to
-- Padded and PlaceWords have what these are proved with.
pub mod Copied
pub mod NodeFields
pub mod RightSizes
pub mod SameMemory
pub mod SaidBands
pub mod SaidNodes
pub mod Between
pub mod Padded
pub mod Lays
pub mod PlaceWords
pub mod LaidBands
pub mod WithBand
pub mod LaidMarks
pub mod LaidNodes
pub mod LaidLays
pub mod NodeWords
pub mod NamesNoBand
pub mod LaidEmpty
pub mod Sound
pub mod LaidSound
pub mod SaidStands
pub mod ChangeIn
pub mod SoundFirst
pub mod JudgedFirst
pub mod ToldBack
pub mod LentWords
pub mod OnlyAsked
pub mod LinkMarks
pub mod NextInLane
pub mod LinksLead
pub mod MemoryExample

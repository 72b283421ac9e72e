-- What holds of the marks of a memory's bands. Of any words, as the code goes through them:
--   WalkSteps          one stop of a walk, link by link and slot by slot
--   WalkedSlots        a walk stop by stop: it ends, and visits at most two slots a node
--   StaircasesInRange  every slot visited is that of a node in use
--   MarksLeft          the marks of the numbers that a loop still has before it
--   CountSteps         marks counted slot by slot and number by number
--   StartSteps         counts turned into starts one by one
--   LaySteps           marks laid one by one
-- Of marks sorted by slot:
--   InSlots            the numbers of slots that stand side by side
--   CountsAndStarts    counted by slot, and counts turned into starts
--   Counted            counted number by number up to a room
--   BucketLaw          laid from the starts on, each slot has its numbers in the order of the marks
-- Of words that say a standing profile:
--   Linked             node words whose places in use have keys in order and their nodes' links
--   WalkOnLinked       on such words a band's walk is the walk of the rules
--   BandMarks          the marks of bands, one band after the other
--   WalkMarks          along the walks of a standing profile they are its marks, slot by slot
--   StaircasesLay      so are the staircases of linked words that say a standing profile
--   LaidAll            counted, started and laid they are its fences and mark words
pub mod WalkSteps
pub mod WalkedSlots
pub mod StaircasesInRange
pub mod MarksLeft
pub mod CountSteps
pub mod StartSteps
pub mod LaySteps
pub mod InSlots
pub mod CountsAndStarts
pub mod Counted
pub mod BucketLaw
pub mod Linked
pub mod WalkOnLinked
pub mod BandMarks
pub mod WalkMarks
pub mod StaircasesLay
pub mod LaidAll

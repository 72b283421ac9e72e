-- The search and the finding over words.
-- What the code is held against, step by step:
--   TakenMarks     taking marks one by one
--   NextNode       the rule's tests of the next node, by what the code is told of it
--   DescendSteps   finishing the search from here comes to the same after each step
--   Searching      what holds in the midst of a search: the invariant of its loops
--   PlaceSteps     halving the places in use
-- Where the words say nodes in key order, finding is the rules' own ..
--   PlaceAmongSaid the place found is that of the node at the key
--   PlaceOnLaid    .. so it is where the words lay a profile
-- .. and where they lay a profile so is the search, in the order in which the laws build on each other:
--   Stands         where both searches stand alike: at the header
--   StandsOnNode   .. and on a node below the key
--   DropOrStep     from there both drop the lane, or both step on
--   AfterLaneZero  what both take after lane 0, and how many nodes are behind them then
--   SearchOnLaid   so both come to the same
pub mod TakenMarks
pub mod NextNode
pub mod DescendSteps
pub mod Searching
pub mod PlaceSteps
pub mod PlaceAmongSaid
pub mod PlaceOnLaid
pub mod Stands
pub mod StandsOnNode
pub mod DropOrStep
pub mod AfterLaneZero
pub mod SearchOnLaid

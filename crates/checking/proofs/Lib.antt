-- What the tests of the check mean, and that together they are soundness:
--   FreeWords      free words
--   BandPlaces     the band places
--   NodePlaces     the node places, but for links, fences and the count of marks
--   EndsStand      ends and nodes
--   LinksRight     the links
--   MarkPlaces     fences, marks in use and marks
--   NodesLaid      the node words, by node places, links and fences
--   TestedIsSound  all tests pass exactly when memory is sound
-- Of the call:
--   CheckExact     what its answer means, and that memory is as it was
--   Settled        no second outcome meets its promise
--   Promise        that promise, by name
-- As the code goes through them:
--   Joined         tests joined by the first of them
--   AllOf          what `all` answers over a range, and over words
--   EndSteps, LinkSteps, MarkSteps
--   EndsAndLinks   the third step, joined
--   WithinMost     nodes and marks within the most, once sizes and node places have passed
pub mod Joined
pub mod AllOf
pub mod FreeWords
pub mod BandPlaces
pub mod NodePlaces
pub mod EndsStand
pub mod LinksRight
pub mod MarkPlaces
pub mod NodesLaid
pub mod TestedIsSound
pub mod Promise
pub mod CheckExact
pub mod Settled
pub mod EndSteps
pub mod LinkSteps
pub mod MarkSteps
pub mod EndsAndLinks
pub mod WithinMost

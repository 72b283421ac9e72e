-- The tests that the check is made of, each over words: band places, node places, ends and nodes, links, fences and marks; and all of them.
pub mod Zeros
pub mod BandPlaces
pub mod NodePlaces
pub mod Ends
pub mod Links
pub mod MarkPlaces
pub mod Tested

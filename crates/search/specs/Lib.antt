-- The search over node and mark words, the next node in a lane, and where a node stands, as definitions on any memory.
pub mod Descent
pub mod Found
pub mod Next
pub mod PlaceOf

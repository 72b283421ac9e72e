-- Where the marks of a memory's bands belong: one band's staircase on node words, all bands' marks, marks sorted by slot, and marks counted up to
-- a room.
pub mod WordWalk
pub mod Stairs
pub mod Buckets
pub mod Staircases
pub mod CountUpTo

-- The lent memory as words: lengths and rooms, where each field stands, what words say, the one memory of a profile, when memory is sound, what a
-- change of it comes to, and what the outcome of a call says that changes or only asks.
pub mod Words
pub mod Sizes
pub mod Memory
pub mod LentMemory
pub mod Places
pub mod HasFields
pub mod SaidProfile
pub mod SaidMarks
pub mod Padded
pub mod LaidBands
pub mod WithBand
pub mod LaidNodes
pub mod LaidMarks
pub mod LaidMemory
pub mod Sound
pub mod ChangeIn
pub mod Came

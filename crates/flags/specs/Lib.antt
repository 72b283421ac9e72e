-- Setting a flag in the sixteen words, reading one, and counting those set.
pub mod FlagWords

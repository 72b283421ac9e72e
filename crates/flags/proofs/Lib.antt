-- What setting a flag does to the words of a list's flags, and that the count is the one made a bit at a time.
pub mod FlagWords
pub mod Counted

-- That the check is sharp: a sound memory, the rows of a table that each change one word of it, and when a row is right.
--   Base   the memory that each row changes
--   Row    a word put at one place of it, and what is asked of that
--   Table  a row, or more, for each kind of word
pub mod Base
pub mod Row
pub mod Table

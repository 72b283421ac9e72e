-- That no row of the table is wrong:
--   ZeroPast  memory whose band words are zero past some place: whether it is sound, without going through these
--   Seen      whether a row is right, by that test
--   Table     the table, by computing
pub mod ZeroPast
pub mod Seen
pub mod Table

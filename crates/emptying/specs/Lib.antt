-- What making an empty profile answers and what memory it leaves, on every memory: a `change_in` of `store`.
pub mod EmptyCall

-- What an insert answers and what memory it leaves, on every memory and every argument: a `change_in` of `store`.
pub mod InsertCall

-- The bench card's records as they are lent or kept as words, the pass over them, and what its answer says.
pub mod Records
pub mod Pass
pub mod Says

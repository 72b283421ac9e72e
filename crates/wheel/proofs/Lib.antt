-- What a turn of the wheel comes to: TableTest has what the test of its table says of each entry, AnyTurn what an answer means that meets its promise,
-- and Settled that no second one meets it.
pub mod TableTest
pub mod AnyTurn
pub mod Settled

-- What the wheel's answer says, in the words of the rules, and the test of its table.
pub mod Says
pub mod TableTest

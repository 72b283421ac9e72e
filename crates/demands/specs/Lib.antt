-- Every call that the box takes: what it comes to on a memory, and when it is refused.
pub mod Calls
pub mod Lines

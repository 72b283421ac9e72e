-- What an answer says is read one to one, so that no second answer meets a promise.
pub mod KeyOrder
pub mod OneToOne
pub mod Settled

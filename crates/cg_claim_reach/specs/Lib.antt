pub mod Asking
pub mod Fanout
pub mod Leaves
pub mod Reached
pub mod Unseen
pub mod inner

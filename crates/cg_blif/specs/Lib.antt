pub mod Physical
pub mod Joining
pub mod Hearing
pub mod Resuming
pub mod inner

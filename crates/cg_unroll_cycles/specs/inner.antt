pub mod Joining
pub mod Laid
pub mod Reached

pub mod Assigned
pub mod Following
pub mod Quads

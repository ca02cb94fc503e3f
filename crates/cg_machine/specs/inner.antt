pub mod Kept
pub mod Putting

pub mod Copies
pub mod Never

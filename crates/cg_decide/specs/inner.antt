pub mod Assumed
pub mod Assignments

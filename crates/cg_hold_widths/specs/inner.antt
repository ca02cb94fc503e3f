pub mod Masks
pub mod Marked
pub mod Counts

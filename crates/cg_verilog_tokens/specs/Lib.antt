pub mod Beginnings
pub mod Marks
pub mod Passing
pub mod PlainNames
pub mod Runs

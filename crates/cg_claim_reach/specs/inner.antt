pub mod Early
pub mod Found
pub mod Learning
pub mod Sources
pub mod Spreading

pub mod Derive
pub mod Worth
pub mod Learn
pub mod Scan
pub mod Search
pub mod End

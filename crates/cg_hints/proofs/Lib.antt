pub mod Adding
pub mod Appending
pub mod Applied
pub mod Decided
pub mod Drafting
pub mod Judging
pub mod Sizing
pub mod Turns

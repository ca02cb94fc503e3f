pub mod Adding
pub mod Deciding
pub mod Drafting
pub mod Judging
pub mod Sizes
pub mod Standing

pub mod TestRun
pub mod Begun
pub mod TestLaws
pub mod Gated
pub mod Kept
pub mod Laws

pub mod StageClaims
pub mod Trying
pub mod Plan
pub mod Reported
pub mod Laws
pub mod Outcomes
pub mod Cleared

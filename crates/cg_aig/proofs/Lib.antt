pub mod Ands
pub mod Fills
pub mod Found
pub mod GateRuns
pub mod Inputs
pub mod Members
pub mod RunsFit

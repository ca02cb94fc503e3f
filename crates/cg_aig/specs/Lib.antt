pub mod Aig
pub mod AigLaws
pub mod Limits
pub mod Values

pub mod Shows
pub mod Simulated
pub mod inner

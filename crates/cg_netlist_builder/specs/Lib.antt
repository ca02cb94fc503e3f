pub mod Building
pub mod Calls
pub mod Inits
pub mod inner

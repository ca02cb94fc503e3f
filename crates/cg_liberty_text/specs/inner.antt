pub mod Values
pub mod Escapes

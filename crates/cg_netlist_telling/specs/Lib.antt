pub mod NamedParts
pub mod Names
pub mod Telling

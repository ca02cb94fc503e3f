pub mod Keyed
pub mod Listed

pub mod Ahead
pub mod Before
pub mod FormParts
pub mod FormSeen
pub mod Nets
pub mod Readings
pub mod Terms
pub mod TermsSeen

pub mod Connectives
pub mod Members
pub mod TrueLiterals
mod ClauseLists
mod ReadingOn
pub mod TokenSpelling
pub mod DimacsExact
pub mod Pushed
pub mod DimacsWritten

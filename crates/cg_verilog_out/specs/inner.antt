pub mod OpenTerms
pub mod Numbering

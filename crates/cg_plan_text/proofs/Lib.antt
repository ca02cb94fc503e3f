pub mod TextLemmas
pub mod NetNames

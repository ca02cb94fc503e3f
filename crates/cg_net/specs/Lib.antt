pub mod Marks
pub mod Names
pub mod NetSets
pub mod inner

pub mod Insert
pub mod Inserting
pub mod Insertion
pub mod inner

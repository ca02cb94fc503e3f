pub mod Asked
pub mod Answered
pub mod World
pub mod Shelf
pub mod MemShelf
pub mod Transfer

pub mod Blanks
pub mod Words
pub mod Lines
pub mod Spots
pub mod Numbers
pub mod Written

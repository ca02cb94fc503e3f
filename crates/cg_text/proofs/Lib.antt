pub mod Pieces
pub mod Blank
pub mod Cut
pub mod Numbers
pub mod Spelling
pub mod Written

pub mod Blocks
pub mod ShorterItems

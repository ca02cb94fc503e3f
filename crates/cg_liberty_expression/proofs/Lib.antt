pub mod Blanked
pub mod FirstFault
pub mod Grammar
pub mod Joins
pub mod Readings
pub mod Sound
pub mod Within
pub mod Words

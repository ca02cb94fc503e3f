pub mod Arena
pub mod Draft
pub mod Assignment

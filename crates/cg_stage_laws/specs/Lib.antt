pub mod Stages
pub mod Needs
pub mod Cells
pub mod Joined
pub mod Effects
pub mod Laws
pub mod Appends

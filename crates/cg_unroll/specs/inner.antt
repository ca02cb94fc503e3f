pub mod Copying
pub mod Faults
pub mod Filling
pub mod Joining
pub mod States

pub mod Assignment
pub mod NonFalse
pub mod LiveTable
pub mod Progress
pub mod Hints
pub mod StepList

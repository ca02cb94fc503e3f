pub mod Lines
pub mod Inputs
pub mod Fault
pub mod Reading
pub mod StimText
pub mod Pushing
pub mod Played
pub mod inner

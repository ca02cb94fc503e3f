pub mod Finishing
pub mod FirstNet
pub mod Heard
pub mod Mentioned
pub mod Numbers
pub mod Renumbering
pub mod Words

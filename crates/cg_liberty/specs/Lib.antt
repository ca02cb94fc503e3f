pub mod Port
pub mod Reading
pub mod Kinds
pub mod Library
pub mod LibText
pub mod FirstFault
pub mod inner

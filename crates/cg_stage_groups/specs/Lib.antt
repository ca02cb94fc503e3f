pub mod Support
pub mod inner
pub mod Keys
pub mod Leaving

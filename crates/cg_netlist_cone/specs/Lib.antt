pub mod Cone
pub mod inner

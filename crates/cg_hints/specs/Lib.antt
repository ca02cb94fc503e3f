pub mod Applying
pub mod Trial
pub mod inner

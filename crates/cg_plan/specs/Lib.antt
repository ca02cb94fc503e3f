pub mod Planning
pub mod Trial
pub mod inner

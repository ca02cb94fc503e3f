pub mod Decision
pub mod inner

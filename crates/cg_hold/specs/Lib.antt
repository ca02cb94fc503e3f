pub mod HoldAnswer
pub mod inner

pub mod Reading
pub mod HintText
pub mod Laws
pub mod inner

pub mod RandomRows
pub mod inner

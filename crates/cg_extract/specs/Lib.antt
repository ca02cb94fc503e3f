pub mod Chained
pub mod Reading
pub mod Laws
pub mod Lifted
pub mod inner

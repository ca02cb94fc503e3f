pub mod Building
pub mod Claims
pub mod Holding
pub mod Laid
pub mod Placing
pub mod Sparse
pub mod inner

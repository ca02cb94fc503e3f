pub mod Pieces
pub mod Writing
pub mod Refusing
pub mod inner

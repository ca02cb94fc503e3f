pub mod Build
pub mod Laws
pub mod LeafBits
pub mod Leaves
pub mod Question
pub mod Reach
pub mod Violates

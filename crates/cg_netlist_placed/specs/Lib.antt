pub mod PinNets
pub mod Placed
pub mod PinsOf
pub mod Adding
pub mod Laws
pub mod Within
pub mod inner

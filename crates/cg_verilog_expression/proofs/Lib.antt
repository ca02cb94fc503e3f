pub mod IndexedNames
pub mod Inverted
pub mod KnownNets
pub mod Literals
pub mod Parting
pub mod Passing
pub mod Shorter

pub mod CycleLeaves
pub mod CyclesBuilt
pub mod CyclesDone
pub mod Joining
pub mod LeafLiterals
pub mod NextLaid
pub mod Reaching
pub mod Wholes

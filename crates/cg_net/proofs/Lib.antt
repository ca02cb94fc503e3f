pub mod DifferentNames
pub mod FoundNets
pub mod Members
pub mod NameLemmas
pub mod NamesInOrder
pub mod NetSetLemmas
pub mod TableLemmas

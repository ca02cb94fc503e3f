pub mod OrderedNames
pub mod OwnPart
pub mod RegisterCalls
pub mod SaidAll
pub mod ToldParts

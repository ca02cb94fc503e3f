pub mod ReadingOn
pub mod NonFalseFound
pub mod HintChain
pub mod Sound
pub mod Deserved
pub mod IdSpelling
pub mod LratExact
pub mod LratWritten
pub mod HintIds
pub mod GrownLog
pub mod UnitHints
pub mod HintsByTruth
mod LiveTable
mod StepLists

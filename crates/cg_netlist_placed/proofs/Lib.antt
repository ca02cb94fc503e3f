pub mod NetsAtPins
pub mod WordsForPins
pub mod PlacedLogic
pub mod PlacedFlop
pub mod PlacedFits
pub mod PinWordLemmas
pub mod AddingLemmas
pub mod PinLemmas

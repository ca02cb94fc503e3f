pub mod Taken
mod ProperCells
mod BlifTexts
mod VerilogTexts
mod DumpRows
pub mod StimulusTexts
pub mod HintTexts
pub mod Texts
pub mod NetlistTexts
pub mod DesignRead

pub mod Words
pub mod HintWords
pub mod StageLines
pub mod ProofText
pub mod Summary
pub mod inner

pub mod Lits
pub mod Satisfiable
pub mod Assignments
pub mod Bounds
pub mod Tokens
pub mod DimacsReading
pub mod DimacsText
pub mod inner

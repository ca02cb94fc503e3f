pub mod Clauses
pub mod Satisfying

pub mod Faults
pub mod Grammar
pub mod Reading
pub mod Reads
pub mod Tokens
pub mod inner

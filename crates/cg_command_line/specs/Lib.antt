pub mod CommandLine
pub mod Seen
pub mod Options
pub mod Jobs

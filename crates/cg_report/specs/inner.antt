pub mod Playing
pub mod Giving
pub mod RowByRow
pub mod ZeroCounting
pub mod Saying
pub mod Watching
pub mod ClockCounting

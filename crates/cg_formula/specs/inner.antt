pub mod ClauseList
pub mod ReadingOn

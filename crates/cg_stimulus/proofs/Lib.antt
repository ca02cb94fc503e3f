pub mod Columns
pub mod CutRows
pub mod InputsNamed
pub mod NamesAdded
pub mod ReadingOn
pub mod StimExact
pub mod Playing

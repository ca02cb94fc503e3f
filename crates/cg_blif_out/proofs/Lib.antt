pub mod WritingLemmas
pub mod WholeText
pub mod WithinNetlist

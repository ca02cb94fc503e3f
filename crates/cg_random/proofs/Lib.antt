pub mod RowLaws
mod Making

pub mod BitsLaws
pub mod CellParts
pub mod CoverParts
pub mod CutRows

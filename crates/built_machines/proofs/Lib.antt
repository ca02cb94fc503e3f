mod CellsThere
mod Depths
mod MayInsert
mod NewName
mod Starting
mod Fitting

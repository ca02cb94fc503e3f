pub mod GatedParts

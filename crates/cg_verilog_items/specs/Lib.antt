pub mod ItemParts
pub mod ItemSeen

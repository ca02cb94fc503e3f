pub mod Store
pub mod Arena
pub mod Ids
pub mod TrailLaws
pub mod Log

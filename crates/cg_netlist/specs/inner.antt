pub mod CutAt
pub mod Driving
pub mod Kept
pub mod Ranking
pub mod Rising
pub mod Walking

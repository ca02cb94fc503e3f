pub mod Edge
pub mod Front
pub mod Met
pub mod Reaching
pub mod Grouping

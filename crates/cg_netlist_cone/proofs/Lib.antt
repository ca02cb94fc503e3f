pub mod ConeEdge
pub mod ConeWalk
pub mod Cones
pub mod OneDriver

pub mod Finding
pub mod RiseCounting
pub mod Seeing

pub mod Roles
pub mod Pins

pub mod Choosing
pub mod Cycles
pub mod Fitting
pub mod Laying
pub mod Looking
pub mod Packed

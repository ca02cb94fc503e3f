pub mod Faults
pub mod Laws
pub mod Part
pub mod Said
pub mod Says
pub mod Writable

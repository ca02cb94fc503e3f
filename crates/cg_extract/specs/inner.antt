pub mod BareParts
pub mod Taking

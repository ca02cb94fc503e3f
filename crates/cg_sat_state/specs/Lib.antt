pub mod Store
pub mod Trail
pub mod inner

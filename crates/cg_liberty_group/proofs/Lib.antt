pub mod FewPins
pub mod Inside

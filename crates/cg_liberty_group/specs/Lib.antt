pub mod Group
pub mod PinText
pub mod Cell

pub mod TokensSeen
pub mod PendingSeen
pub mod Blanked

pub mod Among
pub mod FitLists
pub mod UsedNets
pub mod Mapped
pub mod HoldFits
pub mod Ranked
pub mod StableFits
pub mod UnseenFits

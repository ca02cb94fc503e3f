pub mod Texts
pub mod TokensLeft
pub mod Phases
pub mod ArgumentLists
pub mod AttributeValues
pub mod SpelledIsRead
pub mod ReadIsSpelled
pub mod Hinted

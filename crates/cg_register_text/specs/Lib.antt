pub mod Trials
pub mod Causes
pub mod Rises
pub mod Words
pub mod Meaning
pub mod Laws
pub mod inner

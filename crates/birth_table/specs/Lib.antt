pub mod Births
pub mod Keys
pub mod Kept
pub mod inner

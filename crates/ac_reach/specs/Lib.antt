pub mod inner
pub mod Reached

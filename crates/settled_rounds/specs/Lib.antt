pub mod Linked
pub mod inner

pub mod Doing
pub mod Writes
pub mod inner

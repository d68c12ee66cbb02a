pub mod inner
pub mod Following
pub mod Offering
pub mod Replayed
pub mod Standing

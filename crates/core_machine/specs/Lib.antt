pub mod Words
pub mod Blocks
pub mod Tracks
pub mod Machine
pub mod Points
pub mod Tried
pub mod State
pub mod inner

mod Levels
mod Clearing
mod Releasing
mod Counted
pub mod Finding
mod Messages
mod Taken
mod Examples

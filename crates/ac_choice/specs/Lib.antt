pub mod Turns
pub mod AnyOf
pub mod Relaying
pub mod Steps
pub mod Settling
pub mod Inside
pub mod inner

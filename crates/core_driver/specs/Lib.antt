pub mod Sides
pub mod Pauses
pub mod Idle
pub mod Polled
pub mod Driven
pub mod inner

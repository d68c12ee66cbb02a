pub mod Moves
pub mod Arithmetic
pub mod Frames
pub mod Shared
pub mod Messages
pub mod Requests
pub mod Arrivals
pub mod Cancelling

pub mod Seats
pub mod Seated
pub mod Settling
pub mod Moving
pub mod Working
pub mod Parties
pub mod inner

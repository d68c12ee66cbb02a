pub mod Link
pub mod Rule
pub mod Steps
pub mod Seats
pub mod Laws
pub mod Kept
pub mod InForce
pub mod inner

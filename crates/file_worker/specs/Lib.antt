pub mod Ends
pub mod Agreement
pub mod Rounds
pub mod Settling
pub mod Workers
pub mod Laws
pub mod inner

pub mod Replying
pub mod Rings
pub mod Asking
pub mod Marking
pub mod Requesting
pub mod Answered
pub mod Laws
pub mod inner

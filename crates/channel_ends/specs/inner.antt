pub mod Noted
pub mod Fields
pub mod Catching
pub mod Knowing
pub mod Sends
pub mod Recvs
pub mod Takes

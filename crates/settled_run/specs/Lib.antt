pub mod Ends
pub mod Settled
pub mod Telling
pub mod Parties
pub mod Disk
pub mod Laws

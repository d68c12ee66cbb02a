pub mod Cores
pub mod Ends
pub mod GoingOn
pub mod Hands
pub mod Laws
pub mod Network
pub mod Seen
pub mod Workers

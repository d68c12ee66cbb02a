pub mod Pending
pub mod Chains
pub mod Requests

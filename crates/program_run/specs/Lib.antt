pub mod DiskLeft
pub mod Naming
pub mod Outcomes
pub mod Parties
pub mod Run

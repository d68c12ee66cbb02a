pub mod Parties
pub mod Keeping
pub mod Making
pub mod Parts
pub mod Counting

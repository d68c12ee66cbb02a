pub mod Halts
pub mod Heads
pub mod Marking
pub mod Parts
pub mod Rows
pub mod Letters
pub mod Openings
pub mod Examples

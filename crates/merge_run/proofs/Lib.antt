mod Sublists
mod Positions
mod Made
mod Started
mod Whole
mod Meeting
pub mod Examples

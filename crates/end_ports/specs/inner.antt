pub mod Calls
pub mod Entered
pub mod Places
pub mod AskFields
pub mod Pairs
pub mod Arrivals

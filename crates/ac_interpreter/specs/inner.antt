pub mod Phases
pub mod Plain
pub mod Cores
pub mod Left
pub mod Under
pub mod Outcomes
pub mod Cancels
pub mod Runs

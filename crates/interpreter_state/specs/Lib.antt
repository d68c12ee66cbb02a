pub mod Data
pub mod Operations
pub mod State
pub mod Arrivals
pub mod inner

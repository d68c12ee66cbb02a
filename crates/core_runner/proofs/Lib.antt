pub mod Absent
pub mod AfterRun
pub mod Dealing
pub mod LastParty
pub mod Lists
pub mod NewParties
mod PlaceExamples
pub mod Programs
pub mod Seats
pub mod Served
pub mod Settled
pub mod Telling
pub mod Ways
pub mod Whole

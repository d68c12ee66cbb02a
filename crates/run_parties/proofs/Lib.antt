pub mod Advancing
pub mod Channels
pub mod Desks
pub mod Rounds
pub mod Trying
pub mod Answered
pub mod Requests
pub mod Meeting
mod PartyExamples
mod WorkingExamples

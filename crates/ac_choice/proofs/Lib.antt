mod Places
mod InTurn
mod Asked
pub mod Lists
mod Carrying
mod Fetching
mod Examples
mod RelayExamples

pub mod Places
pub mod Unused
pub mod Giving
pub mod Growing
pub mod NewLinks
pub mod Telling
pub mod UnusedExamples
pub mod DealtExamples

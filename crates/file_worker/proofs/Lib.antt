pub mod Answering
pub mod EndLists
mod Agreeing
pub mod Going
mod Turning
mod Rounding
mod DoneLists
pub mod Readying
pub mod EndExamples
pub mod AgreementExamples
pub mod RoundExamples
pub mod SettlingExamples
pub mod Lasting

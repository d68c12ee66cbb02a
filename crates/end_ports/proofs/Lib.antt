pub mod Stamps
pub mod Owning
pub mod Answering
pub mod Sending
pub mod Receiving
pub mod Settling
pub mod AskSettling
pub mod Pairing
pub mod Asking
pub mod Ready
pub mod Placing
pub mod Dispatch
pub mod Counting
pub mod Telling
pub mod Lasting
mod Examples
mod CallExamples
mod SettledExamples

pub mod Outside
pub mod InStep
pub mod Rounds

pub mod Machine
pub mod Alone

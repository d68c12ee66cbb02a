pub mod Digits
pub mod Joining
pub mod Operands
pub mod Examples

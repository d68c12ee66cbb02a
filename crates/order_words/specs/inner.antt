pub mod Counting
pub mod Operands

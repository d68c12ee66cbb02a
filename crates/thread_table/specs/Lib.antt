pub mod Operands
pub mod Callers
pub mod Table

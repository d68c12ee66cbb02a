pub mod Table
pub mod Conditions
pub mod Ancestors

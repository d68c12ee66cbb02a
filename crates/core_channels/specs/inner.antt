pub mod Takings
pub mod Keeping

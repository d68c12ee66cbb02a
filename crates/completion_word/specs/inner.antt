pub mod Stamps
pub mod Parts

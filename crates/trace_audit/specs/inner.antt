pub mod Coded
pub mod Comparing
pub mod Replaying

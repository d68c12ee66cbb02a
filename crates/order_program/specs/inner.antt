pub mod Calling
pub mod Cutting
pub mod Telling

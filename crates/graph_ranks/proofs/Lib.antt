pub mod Places
pub mod Steps
pub mod Turns
pub mod Whole
pub mod Apart
pub mod Examples

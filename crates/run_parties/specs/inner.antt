pub mod Working
pub mod Keeping

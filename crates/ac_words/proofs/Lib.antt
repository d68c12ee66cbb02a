pub mod Bounded
pub mod Digits
pub mod Scans
pub mod Examples

pub mod Refusals
pub mod Turns
pub mod Prefixes
pub mod Examples

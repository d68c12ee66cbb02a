pub mod Rooted
pub mod Walk
pub mod Examples

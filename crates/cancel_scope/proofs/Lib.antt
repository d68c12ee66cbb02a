pub mod Finding
pub mod Seen
pub mod Examples
pub mod Counted

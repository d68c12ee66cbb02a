pub mod Counting
pub mod Filing
pub mod Reading
pub mod Examples

mod Parts
pub mod Length
pub mod Examples

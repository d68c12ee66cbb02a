pub mod Contents
pub mod Done
pub mod Examples
pub mod Finding
pub mod Requests

pub mod Examples
mod Filled
pub mod StoredExamples
mod Storing

mod Finding
mod Keeping
pub mod Examples
pub mod FilesExamples

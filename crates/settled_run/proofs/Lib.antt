pub mod Agreed
pub mod DiskExamples
pub mod Done
pub mod Left
pub mod Linked
pub mod Serving
pub mod SettledExamples

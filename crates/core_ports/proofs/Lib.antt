pub mod Examples
pub mod GoingOn
pub mod SideExamples
pub mod UpTo

pub mod DiskExamples
pub mod NamedDeeds
pub mod NamedRuns
pub mod Naming
pub mod Outcomes
pub mod OutcomesExamples
pub mod RunExamples
pub mod Widths

pub mod Examples
pub mod ListingExamples

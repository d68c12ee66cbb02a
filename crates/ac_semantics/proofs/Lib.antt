pub mod Forms
pub mod Around
pub mod Examples
pub mod PartExamples
pub mod OperationExamples
pub mod CancelExamples
pub mod RequestExamples

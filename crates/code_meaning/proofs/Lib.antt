pub mod Examples
pub mod MachineExamples
pub mod CancelExamples
pub mod RequestExamples

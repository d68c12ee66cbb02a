pub mod Simulation
pub mod Runs
pub mod Beginnings
pub mod Examples
pub mod MessageExamples
pub mod RequestExamples
pub mod ArrivalExamples
pub mod CancellingExamples

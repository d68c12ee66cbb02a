pub mod Bytes
pub mod AnswerExamples
pub mod MessageExamples
pub mod Ints

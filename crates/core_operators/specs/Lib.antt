pub mod Answers
pub mod Carrying

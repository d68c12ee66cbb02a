pub mod Evaluation
pub mod Work
pub mod Held
pub mod Statements
pub mod Threads
pub mod Replay

pub mod AnsweredFiles
pub mod Cores
pub mod Few
pub mod StateLines
pub mod Telling
pub mod Examples

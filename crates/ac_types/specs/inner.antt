pub mod Seen
pub mod Statements
pub mod Items
pub mod Verdicts

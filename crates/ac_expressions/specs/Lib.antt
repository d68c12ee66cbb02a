pub mod Spelling
pub mod Operators
pub mod Reads
pub mod Returned

pub mod Marks
pub mod Readers
pub mod Letters
pub mod inner

pub mod Marks
pub mod Coming

pub mod Visible
pub mod Inners
pub mod Tables
pub mod Numbers
pub mod Statements
pub mod Slots
pub mod Parameters
pub mod Examples

pub mod Binding
pub mod Reading

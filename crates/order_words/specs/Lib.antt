pub mod Called
pub mod Words
pub mod inner

pub mod Series
pub mod inner

pub mod Starting
pub mod inner

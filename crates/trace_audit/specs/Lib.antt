pub mod inner
pub mod Judged
pub mod Laws
pub mod RunTrace

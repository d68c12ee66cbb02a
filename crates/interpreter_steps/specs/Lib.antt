pub mod Works
pub mod Nexts
pub mod inner

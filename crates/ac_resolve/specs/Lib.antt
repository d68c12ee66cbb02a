pub mod Places
pub mod Computed
pub mod Commands
pub mod Resolution
pub mod InPlace
pub mod inner

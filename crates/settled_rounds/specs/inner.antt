pub mod Settling
pub mod Passing
pub mod Choosing

pub mod Actions
pub mod Laws
pub mod Passes

pub mod FirstVersion
pub mod Fitting
pub mod inner
pub mod Laws
pub mod Outcomes
pub mod Spelling
pub mod Text
pub mod Versions

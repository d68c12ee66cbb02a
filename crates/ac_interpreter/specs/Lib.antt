pub mod Ends
pub mod Unfit
pub mod inner

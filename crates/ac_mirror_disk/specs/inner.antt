pub mod BindsNew
pub mod Callable
pub mod Comparing
pub mod Copying
pub mod Restoring

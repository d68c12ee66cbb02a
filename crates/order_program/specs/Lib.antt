pub mod Asking
pub mod Headline
pub mod Lines
pub mod inner

pub mod Auditing
pub mod Headline
pub mod Lines
pub mod Making
pub mod Summary
pub mod inner

pub mod Due
pub mod Headline
pub mod Laws
pub mod Lines
pub mod Replaying
pub mod Words
pub mod inner

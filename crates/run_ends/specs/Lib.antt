pub mod Unused
pub mod Dealt
pub mod inner

pub mod Hands
pub mod NewEnds
pub mod Dealing

pub mod Copies
pub mod Desks
pub mod Turns
pub mod Rounds

pub mod Done
pub mod formers
pub mod Hexadecimal
pub mod Log
pub mod Messages
pub mod Report
pub mod Stamps
pub mod Stored

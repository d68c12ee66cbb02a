pub mod Emission
pub mod Made

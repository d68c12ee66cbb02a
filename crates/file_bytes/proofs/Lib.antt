mod Lengthened
pub mod Examples

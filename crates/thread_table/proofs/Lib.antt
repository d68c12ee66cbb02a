pub mod Tops
pub mod Innermost
pub mod Handed
pub mod Examples

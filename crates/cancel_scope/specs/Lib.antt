pub mod Outstanding
pub mod Roomy

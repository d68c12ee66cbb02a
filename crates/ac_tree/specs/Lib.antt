pub mod Weight
pub mod Shape

pub mod Parts
pub mod Shapes
pub mod Valid
pub mod Kept
pub mod inner

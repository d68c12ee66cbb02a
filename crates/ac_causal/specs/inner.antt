pub mod Kept
pub mod Marks
pub mod Opening
pub mod Standing

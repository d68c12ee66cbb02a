pub mod Children
pub mod Sound
pub mod Stands
pub mod Clearing
pub mod Filling
mod Laying
pub mod RowCalls
pub mod Rows
pub mod RowsCleared
pub mod Levels
pub mod Whole
pub mod Keeping
pub mod Unwinding
pub mod CellExamples
pub mod Examples

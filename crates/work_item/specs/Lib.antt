pub mod Store
pub mod Cells
pub mod Table
pub mod Conditions
pub mod Ends
pub mod inner

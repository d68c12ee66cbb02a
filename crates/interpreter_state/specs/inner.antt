pub mod Data
pub mod Released
pub mod Sought

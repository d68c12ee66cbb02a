pub mod Asked
pub mod Counting
pub mod Agreement
pub mod Laws

pub mod Bodies
pub mod Work
pub mod Reserve
pub mod Quiet
pub mod Rises

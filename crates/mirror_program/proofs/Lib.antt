mod AtFirst
pub mod Examples

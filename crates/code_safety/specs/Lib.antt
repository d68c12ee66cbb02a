pub mod Fit
pub mod Left
pub mod Ends
pub mod Living
pub mod Chains
pub mod KeptEnds

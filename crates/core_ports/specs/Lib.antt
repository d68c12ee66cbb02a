pub mod Answers
pub mod AtHand
pub mod Counts
pub mod Ends
pub mod Laws
pub mod PortsTold
pub mod Sides
pub mod Tells

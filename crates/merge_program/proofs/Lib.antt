mod Sums
mod Called
mod Answered
mod Examples

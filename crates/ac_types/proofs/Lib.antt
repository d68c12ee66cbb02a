pub mod Bodies
pub mod Agrees
pub mod Seeing
pub mod Functions
pub mod Wholes
pub mod Called
pub mod Lowest
pub mod Judging
pub mod Gathering
pub mod Accepting
pub mod Cleans
pub mod Numbers
pub mod Widths
pub mod Slots
pub mod Formats
pub mod Others
pub mod Forms
mod Examples
mod TableExamples
mod CallExamples
mod WidthExamples

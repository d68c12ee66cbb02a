pub mod Ends
mod Growing
mod Searching
mod Trying
mod Journals
mod Turning
mod Prefixes
mod Moving
mod Examples

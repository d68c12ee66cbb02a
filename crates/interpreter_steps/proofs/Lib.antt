mod Calling
mod Ranges
mod Copying
mod Outcomes
mod Returning
mod Examples

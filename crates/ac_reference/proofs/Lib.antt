mod Counts
mod Replays
mod Examples

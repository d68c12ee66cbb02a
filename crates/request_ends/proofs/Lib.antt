mod Skipping
mod Leading
mod Nexts
mod Marking
mod Listing
pub mod Viewing
mod InboxLists
mod Keeping
mod RowExamples
mod AskExamples
mod ReplyExamples
mod RingExamples
mod MarkExamples

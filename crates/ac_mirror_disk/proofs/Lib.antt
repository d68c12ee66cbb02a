mod BindSteps
mod BindTold
pub mod CallExamples
mod Clauses
mod Copied
mod CopySteps
pub mod Examples
mod Going
mod InUse
mod Keeping
mod LastFile
mod MirrorRestored
mod NewPath
mod OnlyBound
pub mod PairsExamples
mod ReadOnly
pub mod RebuildExamples
mod RestBound
mod Restored
mod SameFound
mod Short
pub mod SoundExamples
mod Steps
mod Telling
mod Under
mod WriteSteps

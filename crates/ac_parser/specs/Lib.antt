pub mod SpellingOfStatements
pub mod SpellingOfItems
pub mod Places
pub mod inner

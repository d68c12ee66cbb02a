pub mod ReadsStatements
pub mod ReadsItems

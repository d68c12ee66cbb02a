pub mod Table
pub mod Scopes
pub mod Kinds
pub mod Statements
pub mod Items
pub mod Numbered
pub mod Room
pub mod Cut

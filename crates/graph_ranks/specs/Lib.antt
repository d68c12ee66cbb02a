pub mod Graph
pub mod inner

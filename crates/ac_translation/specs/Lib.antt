pub mod Pieces
pub mod Translation
pub mod Same

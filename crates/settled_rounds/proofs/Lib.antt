mod Pointwise
mod Pairs
mod EachLink
mod EachTurn
mod Ways
mod Examples

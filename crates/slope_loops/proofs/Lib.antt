pub mod BesideRow
pub mod Examples
pub mod LoopLaws
pub mod Moves
pub mod Numbers
pub mod Parts
pub mod Rows
pub mod Same

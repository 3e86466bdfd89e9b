pub mod Reciprocals
pub mod Same

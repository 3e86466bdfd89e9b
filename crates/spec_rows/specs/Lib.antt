pub mod Distances
pub mod Rows

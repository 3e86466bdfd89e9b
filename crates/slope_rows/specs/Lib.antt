pub mod Requires
pub mod Edges
pub mod Fits
pub mod Places

pub mod Loops
pub mod Slopes

pub mod Requires
pub mod Blocks

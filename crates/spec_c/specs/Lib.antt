pub mod Leaves
pub mod CResult
pub mod Frame
pub mod Version

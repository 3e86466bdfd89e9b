pub mod Examples
pub mod First
pub mod Means

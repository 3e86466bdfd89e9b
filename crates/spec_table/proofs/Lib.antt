pub mod Examples
pub mod Reading

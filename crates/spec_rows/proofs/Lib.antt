pub mod Borders
pub mod Calls
pub mod Cells
pub mod Distances
pub mod Examples
pub mod Steps
pub mod Strips

pub mod Columns
pub mod Factors
pub mod LevelRows
pub mod Overlaps
pub mod Views

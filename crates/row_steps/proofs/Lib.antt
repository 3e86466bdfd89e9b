pub mod NeighbourSums
pub mod Columns
pub mod EdgeRows
pub mod RowCells
pub mod Shapes

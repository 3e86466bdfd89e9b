pub mod ColumnLaws
pub mod CountingCells
pub mod FactorLaws
pub mod Filled
pub mod LevelParts
pub mod OverlapLaws

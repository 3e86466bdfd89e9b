pub mod RowStepRequires
pub mod Requires
pub mod Edges
pub mod FirstRowsRequires
pub mod SlantedRequires

pub mod NearRows
pub mod Totals
pub mod WindowRows

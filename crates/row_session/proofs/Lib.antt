pub mod BlockSums

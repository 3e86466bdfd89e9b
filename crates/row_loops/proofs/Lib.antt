pub mod Adding
pub mod Entering
pub mod Sliding
pub mod RoundChanges

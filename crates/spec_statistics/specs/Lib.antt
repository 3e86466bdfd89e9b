pub mod Answers
pub mod Central
pub mod Coefficient
pub mod Limits
pub mod Moments
pub mod SixSums
pub mod Voice

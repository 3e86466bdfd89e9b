pub mod SlidingSums
pub mod Added

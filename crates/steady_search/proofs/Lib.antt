pub mod BlockRows
pub mod Places
pub mod Searching
pub mod Voices

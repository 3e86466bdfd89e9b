pub mod Panel
pub mod Text

pub mod Thin
pub mod ThinText
pub mod code

pub mod Chars
pub mod Tokens
pub mod Pieces
pub mod Lines
pub mod code

pub mod Steps
pub mod LastPut
pub mod Live
pub mod Pieces
pub mod TraceLines
pub mod Written

pub mod Walks
pub mod Counts
pub mod Cycles
pub mod code

pub mod Copies
pub mod GateRows
pub mod Names
pub mod Same

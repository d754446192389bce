pub mod FunctionTypes
pub mod Lengths

pub mod FunctionTypes

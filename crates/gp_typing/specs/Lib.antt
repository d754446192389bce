pub mod Checks
pub mod Typed
pub mod Expressions
pub mod Statements
pub mod Functions
pub mod View
pub mod TypedView
pub mod code

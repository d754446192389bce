pub mod Environment
pub mod Locals
pub mod View
pub mod Callee
pub mod CalleeView
pub mod Tag
pub mod code

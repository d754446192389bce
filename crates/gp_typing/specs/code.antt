-- What follows the code: no public contract cites it.
pub mod CallView
pub mod Compound
pub mod ExpressionView
pub mod FunctionView
pub mod Operations
pub mod Pieces
pub mod StatementView

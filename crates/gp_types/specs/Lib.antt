pub mod Types
pub mod View
pub mod Linear
pub mod Size
pub mod Leaves
pub mod Signature
pub mod Builtins
pub mod Same

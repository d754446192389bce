-- What follows the code: no public contract cites it.
pub mod GraphIndex
pub mod InStep
pub mod NodeIndexView
pub mod Sources

-- What follows the code: no public contract cites it.
pub mod TypeCode
pub mod Usable
pub mod UsableView

-- What follows the code: no public contract cites it.
pub mod PlainType
pub mod TypeCode
pub mod TypeFalls
pub mod TypeSize

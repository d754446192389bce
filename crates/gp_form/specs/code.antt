-- What follows the code: no public contract cites it.
pub mod FormReading
pub mod Reading
pub mod Steps

-- What follows the code: no public contract cites it.
pub mod FoundForms
pub mod NestingCode
pub mod NestingMachine
pub mod NestingViews

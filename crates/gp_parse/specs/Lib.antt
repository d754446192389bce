pub mod FirstFault
pub mod FormLine
pub mod Nested
pub mod Nesting
pub mod NestingLaws
pub mod Placement
pub mod Programs
pub mod code

-- What the steps of reading find, and what those of writing write. No public contract cites these.
pub mod Ends
pub mod Found
pub mod Marks

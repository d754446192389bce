-- What the searches keep while they run. No public contract cites these.
pub mod Levels
pub mod Reach
pub mod Search

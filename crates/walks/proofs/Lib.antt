pub mod WalkLemmas
pub mod CountLemmas
mod Searches
mod Reached
mod LevelLemmas

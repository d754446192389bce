mod Grown
pub mod ThinLemmas

pub mod Names
pub mod UsableLists

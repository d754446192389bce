-- What follows the code: no public contract cites it.
pub mod AnnotationView
pub mod Components
pub mod EachName
pub mod Levels
pub mod NamesAnswer
pub mod NamesOf
pub mod SizesOf

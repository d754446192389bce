pub mod Gates
pub mod GraphType
pub mod Names
pub mod Op
pub mod OpView
pub mod SameType
pub mod TypeView
pub mod code

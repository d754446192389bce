pub mod Forms
pub mod Grammar
pub mod LineForms
pub mod LineSize
pub mod FormLaws
pub mod code

pub mod Answers
pub mod ExtNames
pub mod GraphText
pub mod InHand
pub mod Reading
pub mod Steps
pub mod TypeText
pub mod code

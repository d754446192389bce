pub mod Checked
pub mod OneAnswer
pub mod TextAnswers

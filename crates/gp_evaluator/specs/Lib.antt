pub mod View
pub mod Evaluation
pub mod Answers

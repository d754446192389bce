pub mod Answers
pub mod Refused
pub mod Runs
pub mod SameRuns
pub mod code

pub mod LexFaults
pub mod LineAnswers
pub mod TypeFaults
pub mod OneAnswer

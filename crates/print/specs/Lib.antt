pub mod Answers
pub mod Lines
pub mod Chunks
pub mod AnswerText
pub mod Examples

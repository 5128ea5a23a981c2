pub mod Answers
pub mod Known
pub mod Counted
pub mod AnswerLaws
pub mod NumberLaws
pub mod CheckLaws

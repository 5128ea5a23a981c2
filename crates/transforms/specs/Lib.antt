pub mod Transforms
pub mod Box
pub mod BoxLaws
pub mod ImageLaws
pub mod AnswerLaws

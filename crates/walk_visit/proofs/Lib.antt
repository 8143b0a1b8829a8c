pub mod ItemLaws
pub mod AnswerLaws

pub mod AgainAnswers
pub mod AgainLaws

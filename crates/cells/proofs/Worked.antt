-- Named inputs with their answers: the starred pairs and what guards believable slips.
pub mod Pairs
pub mod WritePairs
pub mod Answers
pub mod StoreAnswers

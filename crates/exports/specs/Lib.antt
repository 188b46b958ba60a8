-- What a caller in C gets of each answer.
pub mod Answers
pub mod Cells
pub mod Found
pub mod Near
pub mod Parts
pub mod Paths
pub mod RoundTold
pub mod SetTold
pub mod Texts
pub mod Versions

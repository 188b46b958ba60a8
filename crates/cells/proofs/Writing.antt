-- Checks 8 to 11, the five arrays and the section.
pub mod Starts
pub mod Ranges
pub mod CheckTurns
pub mod WriteTotals
pub mod WriteSteps
pub mod WriteListed
pub mod BlockLaws
pub mod BlockSteps
pub mod Nines
pub mod EntryTurns

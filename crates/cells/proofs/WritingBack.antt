-- What was written is read back as the same cell, and is never refused for a cell as read.
pub mod KeptCells
pub mod Kept
pub mod BlocksBack
pub mod SectionBack
pub mod WrittenBack
pub mod WrittenFew
pub mod BackCheck
pub mod BackAnswer
pub mod AsRead
pub mod AsReadKept
pub mod BackAccepted
pub mod UndrawnBack
pub mod UnusedBack

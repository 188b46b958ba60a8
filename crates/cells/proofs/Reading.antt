-- What reading leaves is the cell that document 01 defines.
pub mod ReadLaws
pub mod Whole
pub mod FileRead
pub mod Fits
pub mod NewYnd
pub mod Undrawn
pub mod Listed
pub mod UndrawnCell

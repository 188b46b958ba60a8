pub mod ShortestPath
pub mod PathCall
pub mod SameDistances
pub mod Index
pub mod Labels
pub mod Scratch
pub mod Search
pub mod Going

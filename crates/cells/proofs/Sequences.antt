-- Laws about lists and counts that know nothing of cells.
pub mod Tests
pub mod Turns
pub mod Joined
pub mod JoinedCounts
pub mod Filled
pub mod Ranks
pub mod Moved

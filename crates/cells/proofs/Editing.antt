-- Stores and adds in memory are stores and adds in the cell.
pub mod Conditions
pub mod EditLaws
pub mod AddLaws
pub mod Inserted
pub mod LinkAdded
pub mod CellAdded
pub mod CellStored
pub mod PoolStored
pub mod Replacing
pub mod RangePut
pub mod CellReplaced

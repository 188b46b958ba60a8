pub mod Reach
pub mod Sorted
pub mod Parts
pub mod Heap
pub mod Entries

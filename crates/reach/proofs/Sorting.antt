-- A heap sort in place, by numbers: what stands where while it runs, and that the end is T-08's order.
pub mod BelowLaws
pub mod SortLaws
pub mod KeyLaws
pub mod HeapLaws
pub mod TakenOut
pub mod SinkLaws
pub mod UnheapLaws
pub mod PackLaws
pub mod PartLaws
pub mod Rules

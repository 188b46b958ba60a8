-- Renumbering in memory renumbers the cell; a second time moves nothing.
pub mod Parted
pub mod PartedTwice
pub mod Placed
pub mod Named
pub mod Looked
pub mod NumberTable
pub mod Reordered
pub mod NewCell
pub mod CellRenumbered
pub mod RenumberedTwice
